pub mod Found
pub mod Uses
pub mod ExpressionCheck
pub mod BodyCheck
pub mod FirstFault
pub mod Answers
pub mod Known
pub mod Places
