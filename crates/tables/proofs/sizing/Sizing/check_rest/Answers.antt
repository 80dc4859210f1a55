use Rattle.std.proofs.Common.{refl, ◌∙◌, rules}
use Rattle.tables.proofs.RestNames.{rest_is}
use Rattle.tables.proofs.Faults.{failed}
use Rattle.tables.proofs.sizing.Sizing.check_rest.Goals as goal

pub returns-in_err-once : goal.returns-in_err-once
returns-in_err-once c = rw (failed c.from_residual.result c.from_residual.ensures.0).1 (rest_is c.args.self.tables c.args.self.sizes.now _ _ _ c.up_to.ensures refl refl c.requires ∙ search rules)

pub returns-in_err-once-2 : goal.returns-in_err-once-2
returns-in_err-once-2 c = rw (failed c.from_residual-in_err-once-2.result c.from_residual-in_err-once-2.ensures.0).1 (rest_is c.args.self.tables c.args.self.sizes.now _ _ _ c.up_to.ensures c.up_to-2.ensures refl c.requires ∙ search rules)

pub returns-in_err-once-3 : goal.returns-in_err-once-3
returns-in_err-once-3 c = rw (failed c.from_residual-in_err-once-3.result c.from_residual-in_err-once-3.ensures.0).1 (rest_is c.args.self.tables c.args.self.sizes.now _ _ _ c.up_to.ensures c.up_to-2.ensures c.up_to-3.ensures c.requires ∙ search rules)

pub returns-in_err-check_datas : goal.returns-in_err-check_datas
returns-in_err-check_datas c = rw (failed c.from_residual-in_err-check_datas.result c.from_residual-in_err-check_datas.ensures.0).1 (rest_is c.args.self.tables c.args.self.sizes.now _ _ _ c.up_to.ensures c.up_to-2.ensures c.up_to-3.ensures c.requires ∙ search rules)

pub returns-then-main_ok : goal.returns-then-main_ok
returns-then-main_ok c = rest_is c.args.self.tables c.args.self.sizes.now _ _ _ c.up_to.ensures c.up_to-2.ensures c.up_to-3.ensures c.requires ∙ search rules
