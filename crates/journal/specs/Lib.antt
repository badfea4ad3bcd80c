-- What the journal's kind byte and its reader give, beside the definitions of crate `rules`.
pub mod Kinds
