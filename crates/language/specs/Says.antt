-- The theorems, as types, and what the calls promise.
pub mod Theorems
pub mod Calls
pub use Theorems.{NeverWrong, live_roots, boxes, NothingLeft, EnoughFuel, MoreFuel}
pub use Calls.{first_bad, least_words, CheckSays, limits, shown_only, WrittenOut, Front, none_yet, and_so, outs_of, RunSays}
