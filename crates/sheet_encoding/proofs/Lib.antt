mod ByteNumbers
pub mod RecordTurn
pub mod FieldTurn
pub mod ReaderAnswer
pub mod SlotNumber
pub mod PlacesTurn
