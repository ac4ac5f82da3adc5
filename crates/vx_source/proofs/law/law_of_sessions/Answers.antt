use Rattle.vx_source.proofs.JoinLemmas.{keeps-law, joins-law, others-law}
use Rattle.vx_source.proofs.law.law_of_sessions.Goals as goal

pub returns-clause-keeps : goal.returns-clause-keeps
returns-clause-keeps c = λ w past k st. keeps-law w past k st

pub returns-clause-joins : goal.returns-clause-joins
returns-clause-joins c = λ w past k st. joins-law w past k st

pub returns-clause-others : goal.returns-clause-others
returns-clause-others c = λ w past k st. others-law w past k st
