-- What writing a page returns and leaves.
-- Assumes nothing.
use Rattle.std.specs.Prelude.{ℕ, List}
use Rattle.octets.specs.Calls.{after, WriteLeft, write_left}
use Rattle.octets.specs.Told.{written_in}
use Rattle.route_bytes.specs.TableBytes.{table_in}
use Rattle.route_pages.specs.Pages.{page_of}
use Rattle.route_bytes.specs.StoredTables.{stored_table}

-- ---- a page: the status, the buffer, and the number of bytes written
unfoldable pub page_call : List ℕ → ℕ → ℕ → List ℕ → ℕ → WriteLeft
page_call s page time out written =
    let wrote = page_of (table_in s) page time out in
    let status = stored_table s wrote.said.refusal in
    write_left status (after status out wrote.held) (after status written (written_in wrote))
