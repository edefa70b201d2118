pub mod Posting
pub mod Told
pub mod Numbered
pub mod Steps
pub mod Completing
pub mod Used
pub mod Sending
