-- Words of the crates below, as the definitions and the proofs of this crate use them. Declares nothing.
pub use Rattle.engine_core.specs.RuleSystem.{FitsIn, IsClosed, IsLawful, RuleSystem, needs_of}
pub use Rattle.engine_core.specs.Stored.{is_settled}
pub use Rattle.engine_core.specs.Verdict.{IsRight, IsTrueOf, Outcome, Solves, verdict_of}
pub use Rattle.engine_core.specs.Walk.{Mark, walk}
pub use Rattle.fields_core.specs.LightFaults.{IsLightFault}
pub use Rattle.fields_core.specs.LightHouses.{light_rules}
pub use Rattle.fields_core.specs.LightSolutions.{IsLightSolution}
pub use Rattle.fields_core.specs.TentSolutions.{IsTentFault}
pub use Rattle.fields_core.specs.TentHouses.{tent_rules}
pub use Rattle.fields_core.specs.TentSolutions.{IsTentSolution}
pub use Rattle.gameid_core.specs.GridTexts.{IsAsShown, IsPrinted, hides_nothing}
pub use Rattle.gameid_core.specs.GridTexts.{grid_text}
pub use Rattle.gameid_core.specs.TentsText.{tent_hides, tents_cell}
pub use Rattle.gameid_core.specs.SoloText.{solo_cell, solo_extent}
pub use Rattle.gameid_core.specs.PatternText.{pattern_cell}
pub use Rattle.gameid_core.specs.LightText.{light_hides, light_cell}
pub use Rattle.gameid_core.specs.Head.{extent_of, in_range, max_id, size_of}
pub use Rattle.gameid_core.specs.declared.id.head.SizeRead.{SizeRead}
pub use Rattle.gameid_core.specs.IdTexts.{HasOneReading}
pub use Rattle.gameid_core.specs.Puzzles.{IsPattern, IsSolo, IsTents, Light, Pattern, Solo, Tents, solo_n}
pub use Rattle.gameid_core.specs.declared.id.fault.IdFault.{IdFault}
pub use Rattle.gameid_core.specs.declared.id.game.Game.{Game}
pub use Rattle.grid_core.specs.Candidates.{IsInside, grid_of, only}
pub use Rattle.grid_core.specs.Extent.{Extent, IsExtent}
pub use Rattle.grid_core.specs.Grids.{IsGrid}
pub use Rattle.maker_core.specs.SoloMaking.{IsSoloMade, NoneFound}
pub use Rattle.maker_core.specs.declared.made.Kept.{Kept}
pub use Rattle.pattern_core.specs.Solutions.{IsPatternFault}
pub use Rattle.pattern_core.specs.LineLaws.{is_solution-from, is_solution-is, line_rules-lawful}
pub use Rattle.pattern_core.specs.LineRules.{line_rules}
pub use Rattle.pattern_core.specs.Solutions.{IsPatternSolution}
pub use Rattle.rand_core.specs.Stream.{Stream}
pub use Rattle.solo_core.specs.Faults.{IsSoloFault}
pub use Rattle.solo_core.specs.RuleSets.{crossings_rules, houses_rules, solo_rules_of, singles_rules}
pub use Rattle.solo_core.specs.Scopes.{scopes_of}
pub use Rattle.solo_core.specs.SolutionLaws.{rule_from_test, test_from_rule}
pub use Rattle.solo_core.specs.Solutions.{IsSoloSolution}
