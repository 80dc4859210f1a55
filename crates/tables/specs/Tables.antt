-- What the tables of a program stand for.
use Rattle.std.specs.Prelude.{◌≡◌, ℕ, ◌<◌, List, Some, None, Option}
use Rattle.std.proofs.Math.Option.{Option as Maybe, some, none}
use Rattle.language.specs.Base.{Lexeme, same}
use Rattle.language.specs.Syntax.{Ty, Ctor, Data, Param}
use Rattle.language.specs.Checks.{data_named, ctor_named, home_of}
use Rattle.code.specs.Instr.{Instr}
use Rattle.lexer.specs.declared.name.Name.{Name}
use Rattle.lexer.specs.Spelling.{spelling}
use Rattle.tables.specs.declared.refs.DataRef.{DataRef}
use Rattle.tables.specs.declared.refs.CtorRef.{CtorRef}
use Rattle.tables.specs.declared.refs.FnRef.{FnRef}
use Rattle.tables.specs.declared.refs.Owner.{Owner}
use Rattle.types.specs.declared.ty.ValueType.{ValueType}
use Rattle.types.specs.Types.{type_of}
use Rattle.tables.specs.declared.tables.Tables.{Tables}
use Rattle.tables.specs.Index.{each_from, first_from}
use Rattle.tables.specs.View.{Words, Source, ctor_at, data_at, param_at, sig_at, entry_at}
use Rattle.tables.specs.Heads.{Sig, sig_named}
use Rattle.tables.specs.Collect.{Entry}
use Rattle.tables.specs.Source.{source}

abbrev pub words_in : Tables → Words
words_in t = record { datas = t.datas.now; ctors = t.ctors.now; fields = t.fields.now; fns = t.fns.now; params = t.params.now }

abbrev pub source_of : Tables → Source
source_of t = source t.text.now t.code.now t.size

abbrev pub datas_in : Tables → List Data
datas_in t = each_from (data_at (source_of t) (words_in t)) 0 t.done.datas

abbrev pub sigs_in : Tables → List Sig
sigs_in t = each_from (sig_at (source_of t) (words_in t)) 0 t.done.fns

abbrev pub entries_in : Tables → List Entry
entries_in t = each_from (entry_at (source_of t) (words_in t)) 0 t.done.fns

-- a data type, a constructor, a function's head, a function with its code and a parameter by their numbers
abbrev pub the_data : Tables → ℕ → Data
the_data t = data_at (source_of t) (words_in t)

abbrev pub the_ctor : Tables → ℕ → Ctor
the_ctor t = ctor_at (source_of t) (words_in t)

abbrev pub the_sig : Tables → ℕ → Sig
the_sig t = sig_at (source_of t) (words_in t)

abbrev pub the_entry : Tables → ℕ → Entry
the_entry t = entry_at (source_of t) (words_in t)

abbrev pub the_param : Tables → ℕ → Param
the_param t = param_at (source_of t) (words_in t)

-- what a reference to a row stands for
abbrev pub data_of : DataRef → Data
data_of d = the_data d.tables d.number

abbrev pub ctor_of : CtorRef → Ctor
ctor_of c = the_ctor c.tables c.number

abbrev pub head_of : FnRef → Sig
head_of f = the_sig f.tables f.number

abbrev pub entry_of : FnRef → Entry
entry_of f = the_entry f.tables f.number

-- the instructions from one on
abbrev pub code_from : Tables → ℕ → List Instr
code_from t k = (source_of t).code_from k

abbrev pub spelled : Tables → Name → Lexeme
spelled t name = spelling t.text.now name

-- what a type stands for
abbrev pub type_in : Tables → ValueType → Ty
type_in t ty = type_of t.text.now t.code.now ty

-- the number of the first data type of that name
abbrev pub data_number : Tables → Lexeme → Maybe ℕ
data_number t w = first_from (λ k. same (the_data t k).name w) 0 t.done.datas

-- what a look-up finds: the first of that name
pub record FoundData (t : Tables) (w : Lexeme) (k : ℕ) : Type 0 where
  pub is : data_named (datas_in t) w ≡ some (the_data t k)
  pub number : data_number t w ≡ some k
  pub there : k < t.done.datas

pub record NoData (t : Tables) (w : Lexeme) : Type 0 where
  pub is : data_named (datas_in t) w ≡ none
  pub number : data_number t w ≡ none

abbrev pub FindsData : Tables → Lexeme → Option DataRef → Type 0
FindsData t w None = NoData t w
FindsData t w (Some d) = FoundData t w d.number × (d.tables ≡ t)

abbrev pub FindsCtor : DataRef → Lexeme → Option CtorRef → Type 0
FindsCtor d w None = ctor_named (data_of d).ctors w ≡ none
FindsCtor d w (Some c) = (ctor_named (data_of d).ctors w ≡ some (ctor_of c)) × (c.tables ≡ d.tables)

abbrev pub FindsHome : Tables → Lexeme → Option Owner → Type 0
FindsHome t w None = home_of (datas_in t) w ≡ none
FindsHome t w (Some h) = (home_of (datas_in t) w ≡ some (record { data1 = data_of h.of; ctor1 = ctor_of h.ctor })) × (h.of.tables ≡ t) × (h.ctor.tables ≡ t)

abbrev pub FindsFn : Tables → Lexeme → Option FnRef → Type 0
FindsFn t w None = sig_named (sigs_in t) w ≡ none
FindsFn t w (Some f) = (sig_named (sigs_in t) w ≡ some (head_of f)) × (f.tables ≡ t)
