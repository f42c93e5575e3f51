-- What a context reads under.
use Rattle.ms_resolve.specs.Build.{Outer}
use Rattle.ms_resolve.specs.declared.items.Context.{Context}

abbrev pub outer_by : Context → Outer
outer_by x = record { symbols = x.symbols.now; sigs = x.sigs.now; groups = x.groups.now }
