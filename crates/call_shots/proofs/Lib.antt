pub mod FirstTicks
pub mod Found
pub mod Inside
pub mod Next
pub mod Shares
