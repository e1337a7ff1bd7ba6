use Rattle.std.proofs.Common.{refl}
use Rattle.gs_file.proofs.json_form.put_bonus.Goals as goal

pub returns-in-One : goal.returns-in-One
returns-in-One c = rw c.in-One.is refl

pub returns-in-Two : goal.returns-in-Two
returns-in-Two c = rw c.in-Two.is c.put_numbers.ensures
