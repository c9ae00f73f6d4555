pub mod ArgsLemmas
