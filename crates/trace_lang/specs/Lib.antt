pub mod Grammar
pub mod Numbers
pub mod Owing
pub mod Texts
pub mod Words
