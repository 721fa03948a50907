-- What the crate's contracts say.
pub mod Spans
