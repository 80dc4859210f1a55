-- The machine: words, instructions, a step; running to a halt.
use Rattle.std.specs.Prelude.{◌≡◌, ◌&&◌, List, [], ◌∷◌, ◌++◌, ℕ, suc, ◌+◌, ◌-◌, length, drop, eqb, ltb, leb}
use Rattle.std.proofs.Math.Option.{Option}
use Rattle.language.specs.Base.{Lexeme, choose, from_option}
use Rattle.language.specs.Syntax.{Ty, int, dat, box, ref, mut}
use Rattle.language.specs.Meaning.{Limits, Stop, wrong, no_heap, no_stack, no_turns, worked, next_read}

-- a constructor: its tag, its fields, its data, and where its fields begin in the table of entries
pub record Info : Type 0 where
  pub tag : ℕ
  pub fields : List Ty
  pub home : Lexeme
  pub first : ℕ

-- an entry of that table: a field's offset in its data, and its type
pub record Ent : Type 0 where
  pub off : ℕ
  pub ty : Ty

pub record Place : Type 0 where
  pub at : ℕ
  pub size : ℕ

-- the first free place of each size, and the first word never used
pub record Pools : Type 0 where
  pub heads : List ℕ
  pub top : ℕ

pub record Taken : Type 0 where
  pub at : ℕ
  pub left : Pools

-- what is fixed: tables of the types, where functions begin (from the end of the code), how many words their frames take,
-- the words lent, and the pools' operations
pub record Kit : Type 0 where
  pub info : Lexeme → Option Info
  pub size : Ty → ℕ
  pub ent : ℕ → Option Ent
  pub first_of : Lexeme → ℕ → ℕ
  pub last : Lexeme → Option Lexeme
  pub entry : Lexeme → ℕ
  pub frame : Lexeme → ℕ
  pub resume : Lexeme → ℕ
  pub lent : Limits
  pub take : Pools → (ℕ → ℕ) → ℕ → Option Taken
  pub give : Pools → ℕ → ℕ → Pools
  pub link : Pools → ℕ → ℕ → (ℕ → ℕ) → ℕ → ℕ

pub data Instr : Type 0 where
  NUM : ℕ → ℕ → Instr
  COPY : ℕ → ℕ → Instr
  MOVE : ℕ → ℕ → ℕ → Instr
  OP : ℕ → ℕ → Instr
  BOX : ℕ → ℕ → Instr
  ADDR : ℕ → ℕ → Instr
  LOAD : ℕ → ℕ → Instr
  GET : ℕ → Instr
  TURN : Instr
  ASSIGN : ℕ → ℕ → Ty → Instr
  STORE : ℕ → ℕ → Ty → Instr
  PADDR : ℕ → ℕ → ℕ → Instr
  PART : ℕ → ℕ → ℕ → ℕ → Instr
  JTAG : ℕ → ℕ → ℕ → Instr
  OPEN : ℕ → ℕ → ℕ → Instr
  PUT : ℕ → Instr
  JZ : ℕ → ℕ → Instr
  JMP : ℕ → Instr
  END : ℕ → Ty → Instr
  CALL : ℕ → Lexeme → List Ty → ℕ → Instr
  RESULT : ℕ → ℕ → Instr
  RETURN : ℕ → Instr
  RESUME : Lexeme → Instr
  MAIN : Lexeme → Instr
  HALT : Instr
  STUCK : Instr

-- running; dropping what is at an address, then on by an entry of its parent (0: it's the whole); data behind its last function;
-- the fields of data from an entry on; the whole was dropped
pub data Mode : Type 0 where
  running : Mode
  dropping : ℕ → Ty → ℕ → Mode
  tagged : ℕ → Lexeme → ℕ → Mode
  fields : ℕ → ℕ → Mode
  whole : Mode

pub record Mach : Type 0 where
  pub ctl : List Instr
  pub mode : Mode
  pub words : ℕ → ℕ
  pub fb : ℕ
  pub sp : ℕ
  pub full : ℕ
  pub turns : ℕ
  pub pool : Pools
  pub ins : List ℕ
  pub outs : List ℕ

-- ended with a number, or stopped
pub data Outcome : Type 0 where
  ended : ℕ → Outcome
  stopped : Stop → Outcome

pub data Next : Type 0 where
  go : Mach → Next
  halt : Outcome → List ℕ → Next

abbrev pub upd : (ℕ → ℕ) → ℕ → ℕ → ℕ → ℕ
upd w a x j = choose (eqb j a) x (w j)

abbrev pub copy : (ℕ → ℕ) → ℕ → ℕ → ℕ → ℕ → ℕ
copy w d a z j = choose (leb d j && ltb j (d + z)) (w (a + (j - d))) (w j)

abbrev pub swap : (ℕ → ℕ) → ℕ → ℕ → ℕ → ℕ → ℕ
swap w d a z j = choose (leb d j && ltb j (d + z)) (w (a + (j - d))) (choose (leb a j && ltb j (a + z)) (w (d + (j - a))) (w j))

abbrev pub from_end : List Instr → ℕ → List Instr
from_end code p = drop (length code - p) code

abbrev pub sets : Mach → List Instr → (ℕ → ℕ) → Mach
sets M is w = record { ctl = is; mode = M.mode; words = w; fb = M.fb; sp = M.sp; full = M.full; turns = M.turns; pool = M.pool; ins = M.ins; outs = M.outs }

abbrev pub to_mode : Mach → List Instr → (ℕ → ℕ) → Mode → Mach
to_mode M is w o = record { ctl = is; mode = o; words = w; fb = M.fb; sp = M.sp; full = M.full; turns = M.turns; pool = M.pool; ins = M.ins; outs = M.outs }

abbrev pub pooled : Mach → List Instr → (ℕ → ℕ) → Pools → Mach
pooled M is w ps = record { ctl = is; mode = M.mode; words = w; fb = M.fb; sp = M.sp; full = M.full; turns = M.turns; pool = ps; ins = M.ins; outs = M.outs }

abbrev pub turned : Mach → List Instr → Mach
turned M is = record { ctl = is; mode = M.mode; words = M.words; fb = M.fb; sp = M.sp; full = M.full; turns = suc M.turns; pool = M.pool; ins = M.ins; outs = M.outs }

abbrev pub reading : Mach → List Instr → (ℕ → ℕ) → Mach
reading M is w = record { ctl = is; mode = M.mode; words = w; fb = M.fb; sp = M.sp; full = M.full; turns = M.turns; pool = M.pool; ins = drop 1 M.ins; outs = M.outs }

abbrev pub showing : Mach → List Instr → ℕ → Mach
showing M is x = record { ctl = is; mode = M.mode; words = M.words; fb = M.fb; sp = M.sp; full = M.full; turns = M.turns; pool = M.pool; ins = M.ins; outs = M.outs ++ (x ∷ []) }

-- a box's record goes on what's under way, and comes off
abbrev pub pushed : Mach → (ℕ → ℕ) → Mode → Mach
pushed M w o = record { ctl = M.ctl; mode = o; words = w; fb = M.fb; sp = M.sp + 8; full = M.full; turns = M.turns; pool = M.pool; ins = M.ins; outs = M.outs }

abbrev pub popped : Mach → (ℕ → ℕ) → Pools → Mode → Mach
popped M w ps o = record { ctl = M.ctl; mode = o; words = w; fb = M.fb; sp = M.sp - 8; full = M.full; turns = M.turns; pool = ps; ins = M.ins; outs = M.outs }

-- arguments into the parameters' slots, each with its flag: from a on to d on
abbrev pub passed : Kit → (ℕ → ℕ) → ℕ → ℕ → List Ty → ℕ → ℕ
passed k w d a [] = w
passed k w d a (t ∷ ts) = passed k (upd (copy w (d + 1) a (k.size t)) d 1) (d + (1 + k.size t)) (a + k.size t) ts

-- a frame's header at X: where to go on, the caller's frame, where the result goes, the caller's rest; and what a drop leaves there
abbrev pub header : (ℕ → ℕ) → ℕ → ℕ → ℕ → ℕ → ℕ → ℕ → ℕ → ℕ → ℕ → ℕ
header w X back fb1 res full1 e1 e2 e3 = upd (upd (upd (upd (upd (upd (upd w X back) (X + 1) fb1) (X + 2) res) (X + 3) full1) (X + 4) e1) (X + 5) e2) (X + 6) e3

abbrev pub entered : Kit → List Instr → Mach → ℕ → ℕ → ℕ → ℕ → ℕ → Lexeme → ℕ → List Ty → ℕ → Mach
entered k code M back res e1 e2 e3 f r ts a = record {
  ctl = from_end code (k.entry f);
  mode = running;
  words = passed k (header M.words (k.lent.heap + M.sp) back M.fb res M.full e1 e2 e3) (k.lent.heap + M.sp + (8 + r)) a ts;
  fb = k.lent.heap + M.sp;
  sp = M.sp + k.frame f;
  full = M.sp + k.frame f;
  turns = suc M.turns;
  pool = M.pool;
  ins = M.ins;
  outs = M.outs;
}

abbrev pub enters : Kit → List Instr → Mach → ℕ → ℕ → ℕ → ℕ → ℕ → Lexeme → ℕ → List Ty → ℕ → Next
enters k code M back res e1 e2 e3 f r ts a = choose (ltb M.turns k.lent.max_turns) (choose (leb (M.sp + k.frame f) k.lent.stack) (go (entered k code M back res e1 e2 e3 f r ts a)) (halt (stopped no_stack) M.outs)) (halt (stopped no_turns) M.outs)

-- the result, z words of the frame's result area, goes to where the caller has it
abbrev pub left : Kit → List Instr → Mach → ℕ → Mach
left k code M z = record {
  ctl = from_end code (M.words M.fb);
  mode = running;
  words = copy M.words (M.words (M.fb + 2)) (M.fb + 8) z;
  fb = M.words (M.fb + 1);
  sp = M.fb - k.lent.heap;
  full = M.words (M.fb + 3);
  turns = M.turns;
  pool = M.pool;
  ins = M.ins;
  outs = M.outs;
}

-- behind what was dropped at a: its parent's next field, or the whole was dropped
abbrev pub behind : Kit → ℕ → ℕ → Mode
behind k a pe = choose (eqb pe 0) whole (from_option (k.ent pe) whole (λ x. fields (a - x.off) (pe + 1)))

abbrev pub does : Kit → List Instr → Instr → List Instr → Mach → Next
does k code (NUM h x) is M = go (sets M is (upd M.words (M.fb + h) x))
does k code (COPY h f) is M = go (sets M is (upd M.words (M.fb + h) (M.words (M.fb + (f + 1)))))
does k code (MOVE h f z) is M = go (sets M is (upd (copy M.words (M.fb + h) (M.fb + (f + 1)) z) (M.fb + f) 0))
does k code (OP h o) is M = go (sets M is (upd M.words (M.fb + h) (worked o (M.words (M.fb + h)) (M.words (M.fb + (h + 1))))))
does k code (BOX h z) is M = from_option (k.take M.pool M.words z) (halt (stopped no_heap) M.outs) (λ t. go (pooled M is (upd (copy M.words t.at (M.fb + h) z) (M.fb + h) t.at) t.left))
does k code (ADDR h f) is M = go (sets M is (upd M.words (M.fb + h) (M.fb + (f + 1))))
does k code (LOAD h f) is M = go (sets M is (upd M.words (M.fb + h) (M.words (M.words (M.fb + (f + 1))))))
does k code (GET h) is M = go (reading M is (upd M.words (M.fb + h) (next_read M.ins)))
does k code TURN is M = choose (ltb M.turns k.lent.max_turns) (go (turned M is)) (halt (stopped no_turns) M.outs)
does k code (ASSIGN f h t) is M = go (to_mode M is (upd (swap M.words (M.fb + (f + 1)) (M.fb + h) (k.size t)) (M.fb + f) 1) (choose (eqb (M.words (M.fb + f)) 0) running (dropping (M.fb + h) t 0)))
does k code (STORE f h t) is M = go (to_mode M is (swap M.words (M.words (M.fb + (f + 1))) (M.fb + h) (k.size t)) (dropping (M.fb + h) t 0))
does k code (PADDR h f o) is M = go (sets M is (upd M.words (M.fb + h) (M.words (M.fb + f) + o)))
does k code (PART h f o z) is M = go (sets M is (copy M.words (M.fb + h) (M.fb + (f + (1 + o))) z))
does k code (JTAG h x j) is M = go (sets M (choose (eqb (M.words (M.words (M.fb + h))) x) is (from_end code j)) M.words)
does k code (OPEN h f z) is M = go (pooled M is (k.link M.pool (M.words (M.fb + (f + 1))) z (upd (copy M.words (M.fb + h) (M.words (M.fb + (f + 1))) z) (M.fb + f) 0)) (k.give M.pool (M.words (M.fb + (f + 1))) z))
does k code (PUT h) is M = go (showing M is (M.words (M.fb + h)))
does k code (JZ h j) is M = go (sets M (choose (eqb (M.words (M.fb + h)) 0) (from_end code j) is) M.words)
does k code (JMP j) is M = go (sets M (from_end code j) M.words)
does k code (END f t) is M = go (to_mode M is M.words (choose (eqb (M.words (M.fb + f)) 0) running (dropping (M.fb + (f + 1)) t 0)))
does k code (CALL h f ts r) is M = enters k code M (length is) (M.fb + h) 0 0 0 f r ts (M.fb + h)
does k code (RESULT h z) is M = go (sets M is (copy M.words (M.fb + 8) (M.fb + h) z))
does k code (RETURN z) is M = go (left k code M z)
does k code (RESUME d) is M = go (to_mode M (from_end code (M.words (k.lent.heap + M.sp + 6))) M.words (tagged (M.words (k.lent.heap + M.sp + 4)) d (M.words (k.lent.heap + M.sp + 5))))
does k code (MAIN f) is M = enters k code M (length is) (k.lent.heap + M.sp + 2) 0 0 0 f 1 [] 0
does k code HALT is M = halt (ended (M.words (M.fb + 2))) M.outs
does k code STUCK is M = halt (stopped wrong) M.outs

abbrev pub drop_step : Kit → List Instr → ℕ → Ty → ℕ → Mach → Next
drop_step k code a int pe M = go (to_mode M M.ctl M.words (behind k a pe))
drop_step k code a (dat d) pe M = from_option (k.last d) (go (to_mode M M.ctl M.words (tagged a d pe))) (λ f. enters k code M (k.resume d) (k.lent.heap + M.sp + 2) a pe (length M.ctl) f 1 (mut (dat d) ∷ []) (k.lent.heap + M.sp + 4))
drop_step k code a (box t) pe M = choose (leb (M.sp + 8) k.lent.stack) (go (pushed M (upd (upd (upd (upd M.words (k.lent.heap + M.sp) (M.words a)) (k.lent.heap + M.sp + 1) (k.size t)) (k.lent.heap + M.sp + 2) a) (k.lent.heap + M.sp + 3) pe) (dropping (M.words a) t 0))) (halt (stopped no_stack) M.outs)
drop_step k code a (ref t) pe M = go (to_mode M M.ctl M.words (behind k a pe))
drop_step k code a (mut t) pe M = go (to_mode M M.ctl M.words (behind k a pe))

-- the tag is read after a last function; in its place goes the way back
abbrev pub tagged_step : Kit → ℕ → Lexeme → ℕ → Mach → Next
tagged_step k a d pe M = go (to_mode M M.ctl (upd M.words a pe) (fields a (k.first_of d (M.words a))))

abbrev pub fields_step : Kit → ℕ → ℕ → Mach → Next
fields_step k a e M = go (to_mode M M.ctl M.words (from_option (k.ent e) (behind k a (M.words a)) (λ x. dropping (a + x.off) x.ty e)))

abbrev pub whole_step : Kit → Mach → Next
whole_step k M = choose (eqb M.sp M.full) (go (to_mode M M.ctl M.words running))
    (go (popped M (k.link M.pool (M.words (k.lent.heap + (M.sp - 8))) (M.words (k.lent.heap + (M.sp - 8) + 1)) M.words)
    (k.give M.pool (M.words (k.lent.heap + (M.sp - 8))) (M.words (k.lent.heap + (M.sp - 8) + 1)))
    (behind k (M.words (k.lent.heap + (M.sp - 8) + 2)) (M.words (k.lent.heap + (M.sp - 8) + 3)))))

abbrev pub run_step : Kit → List Instr → List Instr → Mach → Next
run_step k code [] M = halt (stopped wrong) M.outs
run_step k code (i ∷ is) M = does k code i is M

abbrev pub mode_step : Kit → List Instr → Mode → Mach → Next
mode_step k code running M = run_step k code M.ctl M
mode_step k code (dropping a t pe) M = drop_step k code a t pe M
mode_step k code (tagged a d pe) M = tagged_step k a d pe M
mode_step k code (fields a e) M = fields_step k a e M
mode_step k code whole M = whole_step k M

unfoldable pub step : Kit → List Instr → Mach → Next
step k code M = mode_step k code M.mode M

pub data Runs (k : Kit) (code : List Instr) : Mach → Outcome → List ℕ → Type 0 where
  halts : {M : Mach} {x : Outcome} {os : List ℕ} → step k code M ≡ halt x os → Runs k code M x os
  goes : {M N : Mach} {x : Outcome} {os : List ℕ} → step k code M ≡ go N → Runs k code N x os → Runs k code M x os
