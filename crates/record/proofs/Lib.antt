-- The steps that the proofs of this crate's functions share.
mod ReadSteps
mod WriteSteps
