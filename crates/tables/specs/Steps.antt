-- How far the collecting is behind each declaration.
use Rattle.std.specs.Prelude.{◌+◌}
use Rattle.tables.specs.declared.progress.Progress.{Progress}
use Rattle.tables.specs.Index.{span}

abbrev pub with_field : Progress → Progress
with_field p = record { datas = p.datas; fns = p.fns; ctors = p.ctors; fields = span p.fields.first (p.fields.end + 1); params = p.params }

abbrev pub with_ctor : Progress → Progress
with_ctor p = record { datas = p.datas; fns = p.fns; ctors = span p.ctors.first (p.ctors.end + 1); fields = span p.fields.end p.fields.end; params = p.params }

abbrev pub with_data : Progress → Progress
with_data p = record { datas = p.datas + 1; fns = p.fns; ctors = span p.ctors.end p.ctors.end; fields = span p.fields.end p.fields.end; params = p.params }

abbrev pub with_param : Progress → Progress
with_param p = record { datas = p.datas; fns = p.fns; ctors = p.ctors; fields = p.fields; params = span p.params.first (p.params.end + 1) }

abbrev pub with_fn : Progress → Progress
with_fn p = record { datas = p.datas; fns = p.fns + 1; ctors = p.ctors; fields = p.fields; params = span p.params.end p.params.end }
