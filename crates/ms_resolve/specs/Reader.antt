-- What a reader reads under.
use Rattle.ms_resolve.specs.Scope.{Scope}
use Rattle.ms_resolve.specs.Build.{scope_with}
use Rattle.ms_resolve.specs.declared.reader.Reader.{Reader}

abbrev pub scope_by : Reader → Scope
scope_by r = scope_with r.register.now r.symbols.now r.sigs.now r.groups.now
