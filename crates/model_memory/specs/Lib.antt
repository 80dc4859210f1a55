-- What the parts of a run stand for, in the definitions' terms.
pub mod Pooled
