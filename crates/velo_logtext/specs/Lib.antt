pub mod Text
pub mod Finding
pub mod Reading
pub mod Window
pub mod Reader
pub mod Front
