-- What the rules give the lowering: types that are right, and room in the frame; and what is asked of the tables and of the code.
use Rattle.std.specs.Prelude.{◌≡◌, true, false, List, [], ◌∷◌, ℕ, ◌+◌, ◌≤◌, ◌<◌, length, eqb}
use Rattle.std.proofs.Math.Option.{Option, some, none}
use Rattle.language.specs.Base.{Lexeme, same}
use Rattle.language.specs.Syntax.{Ty, int, dat, box, ref, mut, Expr, num, var, op, ctor, boxed, call, share, lend, load, get_e, Exprs, nil_e, cons_e, Access, take, view, edit, Stmt, bind, assign, store, put_s, cond, loop, match_s, open_s, inside, Stmts, nil_s, cons_s, Alts, no_alts, alt, Body, body, Tail, give, give_cond, give_match, Arms, no_arms, arm, Fn, Prog}
use Rattle.language.specs.Checks.{owned, fn_named, home_of, Home, types_of_pars}
use Rattle.language.specs.Meaning.{two_64, frame}
use Rattle.simulation.specs.Machine.{Kit, Info, Instr, RESUME, from_end}
use Rattle.simulation.specs.Lowering.{Slot, Sc, slot_of, Entry, unboxed, type_e, high_e, after_s, after_ss, alt_scope, pars_scope, code_fn, Suf}

-- the data that a match looks at
abbrev pub seen_ty : Ty → Ty
seen_ty int = int
seen_ty (dat d) = dat d
seen_ty (box t) = box t
seen_ty (ref t) = t
seen_ty (mut t) = t

abbrev pub Takes : Access → Ty → Type 0
Takes take t = (d : Lexeme) × (t ≡ dat d)
Takes view t = Unit {0}
Takes edit t = Unit {0}

-- entries of the table, from e on: the fields ts from offset o on
abbrev pub Run : Kit → ℕ → ℕ → List Ty → Type 0
Run K e o [] = K.ent e ≡ none
Run K e o (t ∷ ts) = (K.ent e ≡ some (record { off = o; ty = t })) × Run K (e + 1) (o + K.size t) ts

abbrev pub AllOwned : List Ty → Type 0
AllOwned [] = Unit {0}
AllOwned (t ∷ ts) = (owned t ≡ true) × AllOwned ts

module _ (K : Kit) (fns : Lexeme → Option Entry) where
  abbrev pub types_of : List Slot → Exprs → List Ty
  types_of G nil_e = []
  types_of G (cons_e e es) = type_e K fns G e ∷ types_of G es

  -- what the rules say of an expression, by its names' types
  abbrev mutual
    pub FitE : List Slot → Expr → Type 0
    FitE G (num k) = k < two_64
    FitE G (var x) = Unit {0}
    FitE G (op o d e) = FitE G d × FitE G e
    FitE G (ctor k es) = FitEs G es × ((i : Info) × ((K.info k ≡ some i) × (types_of G es ≡ i.fields)))
    FitE G (boxed e) = FitE G e × (owned (type_e K fns G e) ≡ true)
    FitE G (call f es) = FitEs G es × ((y : Entry) × ((fns f ≡ some y) × (types_of G es ≡ y.pars)))
    FitE G (share x) = Unit {0}
    FitE G (lend x) = Unit {0}
    FitE G (load x) = Unit {0}
    FitE G get_e = Unit {0}

    pub FitEs : List Slot → Exprs → Type 0
    FitEs G nil_e = Unit {0}
    FitEs G (cons_e e es) = FitE G e × FitEs G es

  -- statements fit into so many words of a frame, and their types are right
  abbrev mutual
    pub FitS : ℕ → Sc → Stmt → Type 0
    FitS room C (bind x e) = ((C.high + 1) + high_e K fns C.names e ≤ room) × FitE C.names e
    FitS room C (assign x e) = (C.high + high_e K fns C.names e ≤ room) × FitE C.names e × ((l : Slot) → slot_of C.names x ≡ some l → (type_e K fns C.names e ≡ l.ty) × (owned l.ty ≡ true))
    FitS room C (store x e) = (C.high + high_e K fns C.names e ≤ room) × FitE C.names e × ((l : Slot) → slot_of C.names x ≡ some l → l.ty ≡ mut (type_e K fns C.names e)) × (owned (type_e K fns C.names e) ≡ true)
    FitS room C (put_s e) = (C.high + high_e K fns C.names e ≤ room) × FitE C.names e
    FitS room C (cond e x y) = (C.high + high_e K fns C.names e ≤ room) × FitE C.names e × FitSs room C x × FitSs room C y
    FitS room C (loop e x) = (C.high + high_e K fns C.names e ≤ room) × FitE C.names e × FitSs room C x
    FitS room C (match_s w x as₁) = (C.high ≤ room) × ((d : Lexeme) × (((l : Slot) → slot_of C.names x ≡ some l → (seen_ty l.ty ≡ dat d) × Takes w l.ty) × FitAlts room C w d as₁))
    FitS room C (open_s x y) = (C.high ≤ room) × ((l : Slot) → slot_of C.names y ≡ some l → owned (unboxed l.ty) ≡ true)
    FitS room C (inside x y) = C.high ≤ room

    pub FitSs : ℕ → Sc → Stmts → Type 0
    FitSs room C nil_s = C.high ≤ room
    FitSs room C (cons_s x xs) = FitS room C x × FitSs room (after_s K fns C x) xs

    pub FitAlts : ℕ → Sc → Access → Lexeme → Alts → Type 0
    FitAlts room C w d no_alts = Unit {0}
    FitAlts room C w d (alt c xs ss as₁) = ((i : Info) × ((K.info c ≡ some i) × (i.home ≡ d))) × FitSs room (alt_scope K fns C w c xs) ss × FitAlts room C w d as₁

  abbrev mutual
    pub FitBody : ℕ → Ty → Sc → Body → Type 0
    FitBody room t C (body ss x) = FitSs room C ss × FitTail room t (after_ss K fns C ss) x × ((after_ss K fns C ss).high ≤ room)

    pub FitTail : ℕ → Ty → Sc → Tail → Type 0
    FitTail room t C (give e) = (C.high + high_e K fns C.names e ≤ room) × FitE C.names e × (type_e K fns C.names e ≡ t)
    FitTail room t C (give_cond e a d) = (C.high + high_e K fns C.names e ≤ room) × FitE C.names e × FitBody room t C a × FitBody room t C d
    FitTail room t C (give_match w x as₁) = (C.high ≤ room) × ((d : Lexeme) × (((l : Slot) → slot_of C.names x ≡ some l → (seen_ty l.ty ≡ dat d) × Takes w l.ty) × FitArms room t C w d as₁))

    pub FitArms : ℕ → Ty → Sc → Access → Lexeme → Arms → Type 0
    FitArms room t C w d no_arms = Unit {0}
    FitArms room t C w d (arm c xs x as₁) = ((i : Info) × ((K.info c ≡ some i) × (i.home ≡ d))) × FitBody room t (alt_scope K fns C w c xs) x × FitArms room t C w d as₁

  module _ (code : List Instr) (q : Prog) where
    -- what the lowering and the tables say of a function
    pub record CodedFn (f : Lexeme) (fn : Fn) : Type 0 where
      pub rest : List Instr
      pub at : from_end code (K.entry f) ≡ code_fn K fns fn rest
      pub suf : Suf K fns (code_fn K fns fn rest) code
      pub words : K.frame f ≡ frame q fn
      pub fit : FitBody (frame q fn) fn.ret (pars_scope K fns fn) fn.does
      pub sig : fns f ≡ some (record { pars = types_of_pars fn.pars; ret = fn.ret })

    abbrev pub Coded : Type 0
    Coded = (f : Lexeme) (fn : Fn) → fn_named q.funs f ≡ some fn → CodedFn f fn

    -- what a data's last function must be, and where its drop goes on
    pub record LastFn (d f : Lexeme) : Type 0 where
      pub is : K.last d ≡ some f
      pub pars : (fn : Fn) → fn_named q.funs f ≡ some fn → (types_of_pars fn.pars ≡ mut (dat d) ∷ []) × (fn.ret ≡ int)
      pub rest : List Instr
      pub at : from_end code (K.resume d) ≡ RESUME d ∷ rest

    pub record Tables : Type 0 where
      pub run : (k : Lexeme) (m : Info) → K.info k ≡ some m → (1 ≤ m.first) × Run K m.first 1 m.fields
      pub first : (k : Lexeme) (m : Info) → K.info k ≡ some m → K.first_of m.home m.tag ≡ m.first
      pub own : (k : Lexeme) (m : Info) → K.info k ≡ some m → AllOwned m.fields
      pub tags : (c k : Lexeme) (i m : Info) → K.info c ≡ some i → K.info k ≡ some m → i.home ≡ m.home → i.tag ≡ m.tag → same c k ≡ true
      pub plain : (k : Lexeme) (m : Info) (h : Home) → K.info k ≡ some m → home_of q.datas k ≡ some h → eqb (length h.data1.last) 0 ≡ true → K.last m.home ≡ none
      pub last : (k : Lexeme) (m : Info) (h : Home) → K.info k ≡ some m → home_of q.datas k ≡ some h → eqb (length h.data1.last) 0 ≡ false → LastFn m.home h.data1.last
