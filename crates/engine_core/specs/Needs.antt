-- What memory was taken for, as the code has it.
use Rattle.engine_core.specs.RuleSystem.{Needs}
use Rattle.engine_core.specs.declared.needs.Needs.{Needs as Counted}

-- what the record says
abbrev pub needs_in : Counted → Needs
needs_in m =
    record {
      cells = m.cells;
      values = m.values;
      houses = m.houses;
      bound = m.bound;
      scope = m.scope;
    }
