pub mod OnWords
pub mod OnJudging
