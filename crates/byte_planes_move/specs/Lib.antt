pub mod EveryOther
