pub mod ExpressionLemmas
pub mod ExpressionCost
pub mod StatementLemmas
pub mod StatementCost
pub mod EffectsCost
pub mod FlowLemmas
pub mod SoundExpression
pub mod SoundStatement
pub mod SoundProgram
mod Words
mod ExpressionExamples
mod BodyExamples
mod SoundnessExamples
pub mod FrameLemmas
mod LimitExamples
mod BankExamples
pub mod WorldLemmas
pub mod LimitLemmas
pub mod ExpressionBudget
pub mod StatementBudget
pub mod BodyBudget
mod SpinExample
pub mod ValueLemmas
pub mod ValueExpressions
pub mod ValueBodies
