use Rattle.std.proofs.Common.{subst}
use Rattle.dip_letters.specs.Input.{IsNext}
use Rattle.dip_http.proofs.LetterLemmas.{none_after, none_in_front}
use Rattle.dip_http.proofs.taking.letter_in.Goals as goal

pub returns-in-Taken-next_letter : goal.returns-in-Taken-next_letter
returns-in-Taken-next_letter c = record {
  mail = tt;
  some = tt;
  none = none_after c.args.body.now c.in-Taken.letter c.in-Taken.rest c.next_letter-in-Taken.result (subst (IsNext c.args.body.now) c.in-Taken.is c.next_letter.ensures.next) c.next_letter-in-Taken.ensures.next c.in-Taken-next_letter.is;
}

pub returns-in-Fault : goal.returns-in-Fault
returns-in-Fault c = record {
  mail = tt;
  some = tt;
  none = none_in_front c.args.body.now c.next_letter.result c.next_letter.ensures.next c.in-Fault.is;
}
