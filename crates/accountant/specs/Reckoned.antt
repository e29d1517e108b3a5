-- What an account in memory stands for.
use Rattle.std.specs.Prelude.{ℕ, Some, None, Ok, Err, Option, Result}
use Rattle.query.specs.declared.query.Asked.{Asked}
use Rattle.query.specs.Asked.{query_of}
use Rattle.query.specs.Query.{Query}
use Rattle.budget.specs.Budget.{budgets_of}
use Rattle.accountant.specs.declared.account.Account.{Account}
use Rattle.accountant.specs.declared.impossible.Flaw.{Flaw}
use Rattle.accountant.specs.Accountant.{Standing, standing}

-- what its budgets hold, and the units spent
abbrev pub standing_of : Account → Standing
standing_of a = standing (budgets_of a.budgets) a.spent

-- the same of an answer that may be a refusal
abbrev pub reckoned : {E : Type 0} → Result Account E → Result Standing E
reckoned (Ok a) = Ok (standing_of a)
reckoned (Err e) = Err e

-- the flaw that was found, if any
abbrev pub flaw_of : {X : Type 0} → Result X Flaw → Option Flaw
flaw_of (Ok x) = None
flaw_of (Err flaw) = Some flaw

-- who asks which query, if there is one in memory
abbrev pub asked_of : Option Asked → Option (ℕ × Query)
asked_of None = None
asked_of (Some a) = Some (a.analyst, query_of a.query)
