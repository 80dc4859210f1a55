use Rattle.std.proofs.Common.{rules}
use Rattle.memory.proofs.Places.{used_inside, gave}
use Rattle.memory.proofs.pool.PoolsPool.give_back.Goals as goal

pub offset_bounds-self-a : goal.offset_bounds-self-a
offset_bounds-self-a c = let h = used_inside _ _ _ _ _ _ _ c.requires.used.1.1.1 in search rules

pub bounds-self-a : goal.bounds-self-a
bounds-self-a c = used_inside _ _ _ _ _ _ _ c.requires.used.1.1.1

pub overflow_add-self : goal.overflow_add-self
overflow_add-self c = let h = used_inside _ _ _ _ _ _ _ c.requires.used.1.1.1 in search rules

pub returns-clause-gives : goal.returns-clause-gives
returns-clause-gives c = λ one two free P. gave _ _ _ _ _ one two free c.requires.size P
