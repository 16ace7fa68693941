pub mod Places
pub mod Rising
pub mod Noted
pub mod Ids
