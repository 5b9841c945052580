-- What the lemmas are about: `Devices` what an image gives, `Sources` and `Retries` how a file is read, `Limits` what
-- is left of the image below a `LimitedImage`.
pub mod Devices
pub mod Retries
pub mod Sources
pub mod Limits
