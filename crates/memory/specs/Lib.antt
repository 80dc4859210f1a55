-- Memory lent to a run: places, pools of them, and the row of all words.
pub mod Place
pub mod Pooled
pub mod Peaks
pub mod Asked
pub mod Row
