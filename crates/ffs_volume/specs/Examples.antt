-- Worked examples: images, and what the definitions give for them. A record of examples has its
-- comments inside.
pub mod Images
pub mod OpeningExamples
pub mod BlockExamples
pub mod DirectoryExamples
pub mod ExamplesHold
