pub mod RecordTurn
pub mod FileTurn
