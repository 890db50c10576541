-- `braidlark_forget`: what forgetting leaves of the stored table.
-- Assumes nothing.
use Rattle.c_routes.specs.TableCalls.{forget_call}
use Rattle.c_routes.proofs.table_calls.braidlark_forget.Goals as goal

pub returns : goal.returns
unfolding forget_call
returns c = rw c.status.ensures c.forget.ensures
