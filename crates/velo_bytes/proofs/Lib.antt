pub mod Choices
pub mod OnDevices
pub mod OnDigits
pub mod OnNumbers
