pub mod AtTicks
pub mod Mapped
pub mod InOrder
pub mod Loops
pub mod Joined
pub mod Refused
