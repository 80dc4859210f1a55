-- The words that are lent for the tables.
use Rattle.std.specs.Prelude.{◌≡◌, ℕ, ◌+◌, ◌*◌, ◌<◌, ◌≤◌, length}
use Rattle.tables.specs.declared.progress.Progress.{Progress}
use Rattle.tables.specs.declared.room.Room.{Room}
use Rattle.tables.specs.View.{Words}

abbrev pub words_of : Room → Words
words_of r = record { datas = r.datas.now; ctors = r.ctors.now; fields = r.fields.now; fns = r.fns.now; params = r.params.now }

-- there is room for one more row in each
pub record Longer (w : Words) (p : Progress) : Type 0 where
  pub datas : (p.datas + 1) * 4 ≤ length w.datas
  pub ctors : (p.ctors.end + 1) * 4 ≤ length w.ctors
  pub fields : p.fields.end < length w.fields
  pub fns : (p.fns + 1) * 4 ≤ length w.fns
  pub params : (p.params.end + 1) * 2 ≤ length w.params

-- as long as before
pub record SameLengths (w v : Words) : Type 0 where
  pub datas : length v.datas ≡ length w.datas
  pub ctors : length v.ctors ≡ length w.ctors
  pub fields : length v.fields ≡ length w.fields
  pub fns : length v.fns ≡ length w.fns
  pub params : length v.params ≡ length w.params

-- there is room for so many rows and a spare one in each, and for so many fields
pub record Roomy (w : Words) (rows many : ℕ) : Type 0 where
  pub datas : (rows + 1) * 4 ≤ length w.datas
  pub ctors : (rows + 1) * 4 ≤ length w.ctors
  pub fields : many ≤ length w.fields
  pub fns : (rows + 1) * 4 ≤ length w.fns
  pub params : (rows + 1) * 2 ≤ length w.params
