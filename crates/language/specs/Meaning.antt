-- What a program does, accepted or not, in so many words for boxes and so many for what is under way.
pub mod States
pub mod Memory
pub mod Pieces
pub mod Counting
pub mod Kinds
pub mod Names
pub mod Run
pub use States.{Loc, Value, int_v, con_v, box_v, ref_v, hole, Values, nil_v, cons_v, Root, Class, State, Limits, Stop, wrong, out_of_fuel, no_heap, no_stack, no_turns, Res, ok, stop, Name, Env, root_of}
unfoldable pub use States.{then, need}
pub use Memory.{with_roots, nth_v, put_v, at_path, put_path, live_root, read_at, write_at, here, adds_root, kill}
pub use Pieces.{pieces_e, pieces_es, many, pieces_s, pieces_ss, pieces_alts, pieces_body, pieces_tail, pieces_arms, largest, frame, words_of}
pub use Counting.{count_in, count_out, peaks, with_classes, makes_box, ends_box, with_under}
unfoldable pub use Counting.{goes_under, turn}
pub use Kinds.{two_64, as_number, unless_0, worked, there, num_of, loc_of, box_of, Shape, shape, shape_of, moves, place_of, append, list_of, next_read, reads_in, shows}
pub use Names.{names_in, roots_in, refs_to, names_of, newest, newer, parts, taken, Found, find_alt, FoundArm, find_arm}
pub use Run.{blank, run}
unfoldable pub use Run.{eval, evals, calls, bodies, tails, by_shape, execs, block, exec, by_alt, ends, drops, lasts, parts_of, drops_all}
