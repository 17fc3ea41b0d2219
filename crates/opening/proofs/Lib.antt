pub mod OneSheet
pub mod OneJudgement
