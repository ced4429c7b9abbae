pub mod ByMobile
pub mod Delivers
pub mod Enrolls
pub mod Granted
pub mod Moved
pub mod Names
pub mod Replies
