pub mod HeadRead
pub mod QuestionRead
