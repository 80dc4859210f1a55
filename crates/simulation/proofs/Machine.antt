-- Steps of the machine lead on.
use mathlib.Core.Path.{◌≡◌, ap, ◌∙◌}
use mathlib.Core.List.{List, ◌∷◌}
use Prim.Native.Nat.{ℕ}
pub use Rattle.simulation.specs.Machine.{Info, Ent, Place, Pools, Taken, Kit, Instr, Mode, Mach, Outcome, Next, upd, copy, swap, from_end, sets, to_mode, pooled, turned, reading, showing, pushed, popped, passed, header, entered, enters, left, behind, does, drop_step, tagged_step, fields_step, whole_step, run_step, mode_step, Runs, NUM, COPY, MOVE, OP, BOX, ADDR, LOAD, GET, TURN, ASSIGN, STORE, PADDR, PART, JTAG, OPEN, PUT, JZ, JMP, END, CALL, RESULT, RETURN, RESUME, MAIN, HALT, STUCK, running, dropping, tagged, fields, whole, ended, stopped, go, halt, halts, goes}
unfoldable pub use Rattle.simulation.specs.Machine.{step}

abbrev pub Leads : Kit → List Instr → Mach → Mach → Type 0
Leads k code M N = (x : Outcome) (os : List ℕ) → Runs k code N x os → Runs k code M x os

pub leads_on : {k : Kit} {code : List Instr} {M N O : Mach} → Leads k code M N → Leads k code N O → Leads k code M O
leads_on f h x os r = f x os (h x os r)

-- one step, by mode
pub lead_mode : {k : Kit} {code : List Instr} {M N : Mach} (o : Mode) → M.mode ≡ o → mode_step k code o M ≡ go N → Leads k code M N
unfolding step
lead_mode {k} {code} {M} o em e x os r = goes (ap (λ o1. mode_step k code o1 M) em ∙ e) r

pub halt_mode : {k : Kit} {code : List Instr} {M : Mach} {x : Outcome} {os : List ℕ} (o : Mode) → M.mode ≡ o → mode_step k code o M ≡ halt x os → Runs k code M x os
unfolding step
halt_mode {k} {code} {M} o em e = halts (ap (λ o1. mode_step k code o1 M) em ∙ e)

-- one instruction
pub lead_one : {k : Kit} {code : List Instr} {M N : Mach} (i : Instr) (is : List Instr) → M.mode ≡ running → M.ctl ≡ i ∷ is → does k code i is M ≡ go N → Leads k code M N
lead_one {k} {code} {M} i is em ec e = lead_mode running em (ap (λ c1. run_step k code c1 M) ec ∙ e)

pub halt_one : {k : Kit} {code : List Instr} {M : Mach} {x : Outcome} {os : List ℕ} (i : Instr) (is : List Instr) → M.mode ≡ running → M.ctl ≡ i ∷ is → does k code i is M ≡ halt x os → Runs k code M x os
halt_one {k} {code} {M} i is em ec e = halt_mode running em (ap (λ c1. run_step k code c1 M) ec ∙ e)
