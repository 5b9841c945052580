pub mod Account
pub mod Filled
pub mod Fuse
pub mod Lending
pub mod System
pub mod Touching
