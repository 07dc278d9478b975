use Rattle.commands.proofs.Common.{IsSoloUnmade, Ok, SizeRead, Text, arith, common_steps, in_range, size_of, solo_facts, true, ◌≡◌}
use Rattle.gameid_core.specs.declared.id.game.Game.TheVariants as game
use Rattle.maker_core.specs.declared.made.MakeFault.{MakeFault}
use Rattle.maker_core.specs.declared.made.MakeFault.TheVariants.{Exhausted, Memory, SizeRange}
use Rattle.commands.specs.Unmade.{IsUnmade, unmade_by, wanted_in}
use Rattle.commands.specs.declared.generate.Recipe.{Recipe}
use Rattle.commands.proofs.games.solo.SoloPuzzleMakable.make.Goals as goal
use Rattle.commands.proofs.Makings.{solo_sized}

-- why none is made of it
unmade : {size : SizeRead} (recipe : Recipe) (text : Text) (e : MakeFault) → in_range game.Solo size.w size.h ≡ true
    → size_of game.Solo text ≡ Ok size → IsSoloUnmade size.w size.h size.x recipe.limits (wanted_in recipe).stream e
    → IsUnmade solo_facts.game recipe text (unmade_by e)
unmade recipe text SizeRange range read none = absurd (none (solo_sized range))
unmade recipe text Exhausted range read out =
    record { size = _; read = read; allowed = record { none = out.1; plain = out.2 } }
unmade recipe text Memory range read out = tt

pub returns-in_err-make_solo-clause-unmade : goal.returns-in_err-make_solo-clause-unmade
returns-in_err-make_solo-clause-unmade c =
    let why = unmade c.args.recipe c.args.size.now c.in_err-make_solo.field-0.0 c.in_ok-w.ensures.range c.in_ok-w.ensures.found
    (let stream = c.generator-rng.ensures in rw (← stream) c.in_err-make_solo.ensures.unmade) in
    grind (arith, common_steps)
