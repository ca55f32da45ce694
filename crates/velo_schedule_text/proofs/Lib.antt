pub mod OnWords
pub mod OnTexts
pub mod OnNumbers
pub mod OnFile
pub mod OnShort
