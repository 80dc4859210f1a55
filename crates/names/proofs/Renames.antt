-- Other places for the names of an instruction, in its slot.
use Rattle.std.proofs.Common.{◌≡◌, ℕ, Bool, true, false, List, [], Some, None, Ok, Err, Result, IsOk, sym, refl, ap, ◌∙◌, subst, ap₂, inl, inr}
use Rattle.std.specs.Result.{result_ok}
use Rattle.std.proofs.lemmas.Option.{none-some, same_Some}
use Rattle.lexer.specs.Spelling.{lexeme_at}
use Rattle.code.specs.declared.instr.Operator.TheVariants.{Add, Sub, Mul, Div, Rem, Equal, Less}
use Rattle.code.specs.declared.instr.Access.TheVariants.{Take, View, Edit}
use Rattle.code.specs.declared.instr.Instr.{Instr}
use Rattle.code.specs.declared.instr.Instr.TheVariants.{Num, Var, Int, Op, Make, Call, Arg, Apply, Box, Share, Lend, Load, Get, Bind, Assign, Store, Put, If, Else, EndIf, While, Do, EndWhile, Match, Arm, Part, Body, EndArm, EndMatch, Open, Inside, Give, EndFn, TyInt, TyData, TyBox, TyRef, TyMut, Field, Ctor, Data, Param, Fn}
use Rattle.code.specs.declared.slot.Slot.{Slot}
use Rattle.code.specs.Slots.{slot, slot_of, held, name}
use Rattle.code.specs.Means.{means, access_of}
use Rattle.code.specs.Instr as spec
use Rattle.names.specs.Table.{Has}
use Rattle.names.specs.Canonical.{first_named, second_named, Names, Uses}

-- the instruction with a and b for its operands
pub record Renamed (i : Instr) (a b : ℕ) : Type 0 where
  pub to : Instr
  pub is : held (slot (slot_of i).op a b) ≡ Some to
  pub slots : slot_of to ≡ slot (slot_of i).op a b
  pub same_means : (text : List ℕ) → lexeme_at text a ≡ lexeme_at text (slot_of i).first → lexeme_at text b ≡ lexeme_at text (slot_of i).second → means text to ≡ means text i

-- what is no name stays as it is
abbrev pub Kept : Instr → ℕ → ℕ → Type 0
Kept i a b = (first_named (slot_of i).op ≡ false → a ≡ (slot_of i).first) × (second_named (slot_of i).op ≡ false → b ≡ (slot_of i).second)

slots_same : (op : ℕ) {a b c d : ℕ} → a ≡ c → b ≡ d → slot op c d ≡ slot op a b
slots_same op e f = ap₂ (slot op) (sym e) (sym f)

pub renaming : (i : Instr) (a b : ℕ) → Kept i a b → Renamed i a b
renaming Int a b k = record { to = Int; is = refl; slots = slots_same 0 (k.0 refl) (k.1 refl); same_means = λ text e f. refl }
renaming Arg a b k = record { to = Arg; is = refl; slots = slots_same 1 (k.0 refl) (k.1 refl); same_means = λ text e f. refl }
renaming Apply a b k = record { to = Apply; is = refl; slots = slots_same 2 (k.0 refl) (k.1 refl); same_means = λ text e f. refl }
renaming Box a b k = record { to = Box; is = refl; slots = slots_same 3 (k.0 refl) (k.1 refl); same_means = λ text e f. refl }
renaming Get a b k = record { to = Get; is = refl; slots = slots_same 4 (k.0 refl) (k.1 refl); same_means = λ text e f. refl }
renaming Put a b k = record { to = Put; is = refl; slots = slots_same 5 (k.0 refl) (k.1 refl); same_means = λ text e f. refl }
renaming If a b k = record { to = If; is = refl; slots = slots_same 6 (k.0 refl) (k.1 refl); same_means = λ text e f. refl }
renaming Else a b k = record { to = Else; is = refl; slots = slots_same 7 (k.0 refl) (k.1 refl); same_means = λ text e f. refl }
renaming EndIf a b k = record { to = EndIf; is = refl; slots = slots_same 8 (k.0 refl) (k.1 refl); same_means = λ text e f. refl }
renaming While a b k = record { to = While; is = refl; slots = slots_same 9 (k.0 refl) (k.1 refl); same_means = λ text e f. refl }
renaming Do a b k = record { to = Do; is = refl; slots = slots_same 10 (k.0 refl) (k.1 refl); same_means = λ text e f. refl }
renaming EndWhile a b k = record { to = EndWhile; is = refl; slots = slots_same 11 (k.0 refl) (k.1 refl); same_means = λ text e f. refl }
renaming Body a b k = record { to = Body; is = refl; slots = slots_same 12 (k.0 refl) (k.1 refl); same_means = λ text e f. refl }
renaming EndArm a b k = record { to = EndArm; is = refl; slots = slots_same 13 (k.0 refl) (k.1 refl); same_means = λ text e f. refl }
renaming EndMatch a b k = record { to = EndMatch; is = refl; slots = slots_same 14 (k.0 refl) (k.1 refl); same_means = λ text e f. refl }
renaming Give a b k = record { to = Give; is = refl; slots = slots_same 15 (k.0 refl) (k.1 refl); same_means = λ text e f. refl }
renaming EndFn a b k = record { to = EndFn; is = refl; slots = slots_same 16 (k.0 refl) (k.1 refl); same_means = λ text e f. refl }
renaming TyInt a b k = record { to = TyInt; is = refl; slots = slots_same 17 (k.0 refl) (k.1 refl); same_means = λ text e f. refl }
renaming TyBox a b k = record { to = TyBox; is = refl; slots = slots_same 18 (k.0 refl) (k.1 refl); same_means = λ text e f. refl }
renaming TyRef a b k = record { to = TyRef; is = refl; slots = slots_same 19 (k.0 refl) (k.1 refl); same_means = λ text e f. refl }
renaming TyMut a b k = record { to = TyMut; is = refl; slots = slots_same 20 (k.0 refl) (k.1 refl); same_means = λ text e f. refl }
renaming Field a b k = record { to = Field; is = refl; slots = slots_same 21 (k.0 refl) (k.1 refl); same_means = λ text e f. refl }
renaming (Var x) a b k = record { to = Var (name a); is = refl; slots = slots_same 22 refl (k.1 refl); same_means = λ text e f. ap spec.i_var e }
renaming (Make x) a b k = record { to = Make (name a); is = refl; slots = slots_same 23 refl (k.1 refl); same_means = λ text e f. ap spec.i_make e }
renaming (Call x) a b k = record { to = Call (name a); is = refl; slots = slots_same 24 refl (k.1 refl); same_means = λ text e f. ap spec.i_call e }
renaming (Share x) a b k = record { to = Share (name a); is = refl; slots = slots_same 25 refl (k.1 refl); same_means = λ text e f. ap spec.i_share e }
renaming (Lend x) a b k = record { to = Lend (name a); is = refl; slots = slots_same 26 refl (k.1 refl); same_means = λ text e f. ap spec.i_lend e }
renaming (Load x) a b k = record { to = Load (name a); is = refl; slots = slots_same 27 refl (k.1 refl); same_means = λ text e f. ap spec.i_load e }
renaming (Bind x) a b k = record { to = Bind (name a); is = refl; slots = slots_same 28 refl (k.1 refl); same_means = λ text e f. ap spec.i_bind e }
renaming (Assign x) a b k = record { to = Assign (name a); is = refl; slots = slots_same 29 refl (k.1 refl); same_means = λ text e f. ap spec.i_assign e }
renaming (Store x) a b k = record { to = Store (name a); is = refl; slots = slots_same 30 refl (k.1 refl); same_means = λ text e f. ap spec.i_store e }
renaming (Arm x) a b k = record { to = Arm (name a); is = refl; slots = slots_same 31 refl (k.1 refl); same_means = λ text e f. ap spec.i_arm e }
renaming (Part x) a b k = record { to = Part (name a); is = refl; slots = slots_same 32 refl (k.1 refl); same_means = λ text e f. ap spec.i_name e }
renaming (TyData x) a b k = record { to = TyData (name a); is = refl; slots = slots_same 33 refl (k.1 refl); same_means = λ text e f. ap spec.i_ty_data e }
renaming (Ctor x) a b k = record { to = Ctor (name a); is = refl; slots = slots_same 34 refl (k.1 refl); same_means = λ text e f. ap spec.i_ctor e }
renaming (Param x) a b k = record { to = Param (name a); is = refl; slots = slots_same 35 refl (k.1 refl); same_means = λ text e f. ap spec.i_param e }
renaming (Fn x) a b k = record { to = Fn (name a); is = refl; slots = slots_same 36 refl (k.1 refl); same_means = λ text e f. ap spec.i_fn e }
renaming (Data d None) a b k = record { to = Data (name a) None; is = refl; slots = slots_same 37 refl (k.1 refl); same_means = λ text e f. ap (λ w. spec.i_data w []) e }
renaming (Num n) a b k = record { to = Num a; is = refl; slots = slots_same 38 refl (k.1 refl); same_means = λ text e f. ap spec.i_num (k.0 refl) }
renaming (Op Add) a b k = record { to = Op Add; is = ap (λ v. held (slot 39 v b)) (k.0 refl); slots = slots_same 39 (k.0 refl) (k.1 refl); same_means = λ text e f. refl }
renaming (Op Sub) a b k = record { to = Op Sub; is = ap (λ v. held (slot 39 v b)) (k.0 refl); slots = slots_same 39 (k.0 refl) (k.1 refl); same_means = λ text e f. refl }
renaming (Op Mul) a b k = record { to = Op Mul; is = ap (λ v. held (slot 39 v b)) (k.0 refl); slots = slots_same 39 (k.0 refl) (k.1 refl); same_means = λ text e f. refl }
renaming (Op Div) a b k = record { to = Op Div; is = ap (λ v. held (slot 39 v b)) (k.0 refl); slots = slots_same 39 (k.0 refl) (k.1 refl); same_means = λ text e f. refl }
renaming (Op Rem) a b k = record { to = Op Rem; is = ap (λ v. held (slot 39 v b)) (k.0 refl); slots = slots_same 39 (k.0 refl) (k.1 refl); same_means = λ text e f. refl }
renaming (Op Equal) a b k = record { to = Op Equal; is = ap (λ v. held (slot 39 v b)) (k.0 refl); slots = slots_same 39 (k.0 refl) (k.1 refl); same_means = λ text e f. refl }
renaming (Op Less) a b k = record { to = Op Less; is = ap (λ v. held (slot 39 v b)) (k.0 refl); slots = slots_same 39 (k.0 refl) (k.1 refl); same_means = λ text e f. refl }
renaming (Match Take x) a b k = record { to = Match Take (name b); is = ap (λ v. held (slot 40 v b)) (k.0 refl); slots = slots_same 40 (k.0 refl) refl; same_means = λ text e f. ap (spec.i_match (access_of Take)) f }
renaming (Match View x) a b k = record { to = Match View (name b); is = ap (λ v. held (slot 40 v b)) (k.0 refl); slots = slots_same 40 (k.0 refl) refl; same_means = λ text e f. ap (spec.i_match (access_of View)) f }
renaming (Match Edit x) a b k = record { to = Match Edit (name b); is = ap (λ v. held (slot 40 v b)) (k.0 refl); slots = slots_same 40 (k.0 refl) refl; same_means = λ text e f. ap (spec.i_match (access_of Edit)) f }
renaming (Open x y) a b k = record { to = Open (name a) (name b); is = refl; slots = refl; same_means = λ text e f. ap₂ spec.i_open e f }
renaming (Inside x y) a b k = record { to = Inside (name a) (name b); is = refl; slots = refl; same_means = λ text e f. ap₂ spec.i_inside e f }
renaming (Data d (Some last)) a b k = record { to = Data (name a) (Some (name b)); is = refl; slots = refl; same_means = λ text e f. ap₂ spec.i_data e f }

-- an operand's new word
abbrev pub Operand : List ℕ → List ℕ → Bool → ℕ → ℕ → Type 0
Operand text next named old new = (lexeme_at text new ≡ lexeme_at text old) × (named ≡ false → new ≡ old) × (named ≡ true → Has next new)

-- what a slot with new operands gives
pub record Operands (text next : List ℕ) (old : Slot) (p q : Bool) (a b : ℕ) : Type 0 where
  pub first_is : p ≡ first_named old.op
  pub second_is : q ≡ second_named old.op
  pub first : Operand text next p old.first a
  pub second : Operand text next q old.second b

-- one operand after the other
pub both_operands : (text text' next later : List ℕ) (old : Slot) (p q : Bool) (a b : ℕ) → p ≡ first_named old.op → q ≡ second_named old.op → Operand text next p old.first a → text' ≡ text → ((x : ℕ) → Has next x → Has later x) → Operand text' later q old.second b → Operands text later old p q a b
both_operands text text' next later old p q a b e f first same grows second = record {
  first_is = e;
  second_is = f;
  first = (first.0, first.1, λ t. grows a (first.2 t));
  second = subst (λ t. Operand t later q old.second b) same second;
}

module _ (text next : List ℕ) (i : Instr) (p q : Bool) (a b : ℕ) where
  has : (x : ℕ) → Operands text next (slot_of i) p q a b → Names (slot (slot_of i).op a b) x → Has next x
  has x h (inl u) = subst (Has next) u.1 (h.first.2 (h.first_is ∙ u.0))
  has x h (inr u) = subst (Has next) u.1 (h.second.2 (h.second_is ∙ u.0))

  renamed : Operands text next (slot_of i) p q a b → Renamed i a b
  renamed h = renaming i a b (λ n. h.first.1 (h.first_is ∙ n), λ n. h.second.1 (h.second_is ∙ n))

  module _ (old : Slot) (e : old ≡ slot_of i) (h : Operands text next old p q a b) where
    new : Renamed i a b
    new = renamed (subst (λ s. Operands text next s p q a b) e h)

    held_new : held (slot old.op a b) ≡ Some new.to
    held_new = ap (λ s. held (slot s.op a b)) e ∙ new.is

    -- the new words are an instruction's
    pub still_instr : {E : Type 0} (r : Result Instr E) → result_ok r ≡ held (slot old.op a b) → IsOk r
    still_instr (Ok j) is = refl
    still_instr (Err x) is = absurd (none-some new.to (is ∙ held_new))

    pub given : (j : Instr) → Some j ≡ held (slot old.op a b) → (means text j ≡ means text i) × ((x : ℕ) → Uses j x → Has next x)
    given j is =
        let o = subst (λ s. Operands text next s p q a b) e h in
        subst (λ j. (means text j ≡ means text i) × ((x : ℕ) → Uses j x → Has next x)) (sym (same_Some j new.to (is ∙ held_new)))
        (new.same_means text o.first.0 o.second.0, λ x u. has x o (subst (λ s. Names s x) new.slots u))
