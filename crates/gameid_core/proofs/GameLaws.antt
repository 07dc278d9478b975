-- What is so of each game.
use Rattle.gameid_core.proofs.LightTexts.{light_one_text, light_reading}
use Rattle.gameid_core.proofs.PatternTexts.{pattern_reading}
use Rattle.gameid_core.proofs.PatternWritten.{pattern_one_text}
use Rattle.gameid_core.proofs.SoloTexts.{solo_one_text, solo_reading}
use Rattle.gameid_core.proofs.TentsTexts.{tents_reading}
use Rattle.gameid_core.proofs.TentsWritten.{tents_one_text}

pub ruleset readings = (light_reading, pattern_reading, solo_reading, tents_reading)

pub ruleset texts = (light_one_text, pattern_one_text, solo_one_text, tents_one_text)
