-- What the words of the tables stand for.
use Rattle.std.specs.Prelude.{◌≡◌, ℕ, ◌+◌, ◌<◌, ◌≤◌, List, slice_index}
use Rattle.language.specs.Base.{Lexeme}
use Rattle.language.specs.Syntax.{Ty, Ctor, Data, Param}
use Rattle.code.specs.Instr.{Instr}
use Rattle.lexer.specs.Spelling.{spelling}
use Rattle.tables.specs.declared.progress.Progress.{Progress}
use Rattle.tables.specs.Index.{each_from, all_in}
use Rattle.tables.specs.Rows.{declared_row, param_row, end_before}
use Rattle.tables.specs.Heads.{Sig}
use Rattle.tables.specs.Collect.{Entry, Tables}

-- the words of each table
pub record Words : Type 0 where
  pub datas : List ℕ
  pub ctors : List ℕ
  pub fields : List ℕ
  pub fns : List ℕ
  pub params : List ℕ

-- what rows point at: the text, and by the number of an instruction the type that stands before it, the function that it names as
-- called when data is dropped, and the code from it on
pub record Source : Type 0 where
  pub text : List ℕ
  pub type_at : ℕ → Ty
  pub last_at : ℕ → Lexeme
  pub code_from : ℕ → List Instr

-- a row of each table, by its number
abbrev pub field_at : Source → Words → ℕ → Ty
field_at s w k = s.type_at (slice_index w.fields k)

abbrev pub ctor_at : Source → Words → ℕ → Ctor
ctor_at s w k = record { name = spelling s.text (declared_row w.ctors k).name; fields = all_in (field_at s w) (declared_row w.ctors k).parts }

abbrev pub data_at : Source → Words → ℕ → Data
data_at s w k = record { name = spelling s.text (declared_row w.datas k).name; ctors = all_in (ctor_at s w) (declared_row w.datas k).parts; last = s.last_at (declared_row w.datas k).at }

abbrev pub param_at : Source → Words → ℕ → Param
param_at s w k = record { name = spelling s.text (param_row w.params k).name; ty = s.type_at (param_row w.params k).at }

abbrev pub sig_at : Source → Words → ℕ → Sig
sig_at s w k = record { name = spelling s.text (declared_row w.fns k).name; params = all_in (param_at s w) (declared_row w.fns k).parts; ret = s.type_at (declared_row w.fns k).at }

abbrev pub entry_at : Source → Words → ℕ → Entry
entry_at s w k = record { sig = sig_at s w k; code = s.code_from ((declared_row w.fns k).at + 1) }

-- all that was declared before an instruction
abbrev pub tables_in : Source → Words → Progress → ℕ → Tables
tables_in s w p at = record {
  datas = each_from (data_at s w) 0 p.datas;
  entries = each_from (entry_at s w) 0 p.fns;
  ty = s.type_at at;
  fields = all_in (field_at s w) p.fields;
  ctors = all_in (ctor_at s w) p.ctors;
  params = all_in (param_at s w) p.params;
}

-- parts of what was declared stand before the end of their tables, and rows point at the first n instructions
pub record Within (w : Words) (p : Progress) (n : ℕ) : Type 0 where
  pub datas : (k : ℕ) → k < p.datas → (declared_row w.datas k).parts.end ≤ p.ctors.end
  pub ctors : (k : ℕ) → k < p.ctors.end → (declared_row w.ctors k).parts.end ≤ p.fields.end
  pub fns : (k : ℕ) → k < p.fns → (declared_row w.fns k).parts.end ≤ p.params.end
  pub ctors_open : p.ctors.first ≤ p.ctors.end
  pub fields_open : p.fields.first ≤ p.fields.end
  pub params_open : p.params.first ≤ p.params.end
  pub joined : (k : ℕ) → k < p.datas → (declared_row w.datas k).parts.first ≡ end_before w.datas k
  pub ordered : (k : ℕ) → k < p.datas → (declared_row w.datas k).parts.first ≤ (declared_row w.datas k).parts.end
  pub next : p.ctors.first ≡ end_before w.datas p.datas
  pub datas_at : (k : ℕ) → k < p.datas → (declared_row w.datas k).at < n
  pub fields_at : (k : ℕ) → k < p.fields.end → slice_index w.fields k < n
  pub fns_at : (k : ℕ) → k < p.fns → (declared_row w.fns k).at < n
  pub params_at : (k : ℕ) → k < p.params.end → (param_row w.params k).at < n
