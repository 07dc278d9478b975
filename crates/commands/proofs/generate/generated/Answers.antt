use Rattle.commands.proofs.generate.generated.Goals as goal

pub returns-in-Solo : goal.returns-in-Solo
returns-in-Solo c = rw c.in-Solo.is c.generate_one.ensures

pub returns-in-Pattern : goal.returns-in-Pattern
returns-in-Pattern c = rw c.in-Pattern.is c.generate_one-in-Pattern.ensures

pub returns-in-LightUp : goal.returns-in-LightUp
returns-in-LightUp c = rw c.in-LightUp.is c.generate_one-in-LightUp.ensures

pub returns-in-Tents : goal.returns-in-Tents
returns-in-Tents c = rw c.in-Tents.is c.generate_one-in-Tents.ensures
