-- The instruction comes back from the word that its fields make.
use Rattle.std.proofs.Common.{◌∙◌, sym}
use Rattle.scode.proofs.Codes.{joined_back}
use Rattle.scode.proofs.code.encode.Goals as goal

pub returns-clause-again : goal.returns-clause-again
returns-clause-again c =
    joined_back c.args.instruction _ c.join.result (sym c.fields_of.ensures ∙ c.in_ok-fields_of.was) c.join.ensures.answer c.join.ensures.again
