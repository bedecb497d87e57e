use Rattle.sg_hint.proofs.written.append_suggestion.Goals as goal

pub returns-in_ok-append_name : goal.returns-in_ok-append_name
returns-in_ok-append_name c = rw c.in-Some.is c.in_ok-append_name.ensures
