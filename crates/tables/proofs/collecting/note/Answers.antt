use Rattle.std.proofs.Common.{get_or-set_other, get_or-set_same}
use Rattle.tables.specs.Lent.{words_of}
use Rattle.tables.proofs.Noted.{noted_as, noted_field, noted_ctor, noted_data, noted_param, noted_fn}
use Rattle.tables.proofs.collecting.note.Goals as goal

pub returns-in-Field-clause-noted : goal.returns-in-Field-clause-noted
returns-in-Field-clause-noted c = noted_as c.in-Field.is (noted_field (words_of c.args.room.now) _ c.args.done c.args.at (get_or-set_same _ _ _ 0 c.requires.fields, λ j h. get_or-set_other _ _ j _ 0 h))

pub returns-in-Ctor-clause-noted : goal.returns-in-Ctor-clause-noted
returns-in-Ctor-clause-noted c = noted_as c.in-Ctor.is (noted_ctor (words_of c.args.room.now) c.store.new.words c.args.done c.args.at c.in-Ctor.name (c.store.ensures.this, c.store.ensures.others))

pub returns-in-Data-clause-noted : goal.returns-in-Data-clause-noted
returns-in-Data-clause-noted c = noted_as c.in-Data.is (noted_data (words_of c.args.room.now) c.store-in-Data.new.words c.args.done c.args.at c.in-Data.name _ (c.store-in-Data.ensures.this, c.store-in-Data.ensures.others))

pub returns-in-Param-clause-noted : goal.returns-in-Param-clause-noted
returns-in-Param-clause-noted c = noted_as c.in-Param.is (noted_param (words_of c.args.room.now) _ c.args.done c.args.at c.in-Param.name (c.store-in-Param.ensures.this, c.store-in-Param.ensures.others))

pub returns-in-Fn-clause-noted : goal.returns-in-Fn-clause-noted
returns-in-Fn-clause-noted c = noted_as c.in-Fn.is (noted_fn (words_of c.args.room.now) _ c.args.done c.args.at c.in-Fn.name (c.store-in-Fn.ensures.this, c.store-in-Fn.ensures.others))
