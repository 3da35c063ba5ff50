pub mod Folder
pub mod Running
pub mod Recorders
pub mod AllParts
pub mod Answering
pub mod Closing
pub mod Maps
pub mod Wording
