use Rattle.lw_print.proofs.calls.push_rest.Goals as goal

pub returns-in-Put : goal.returns-in-Put
returns-in-Put c = rw c.in-Put.is (rw (c.name_of-source.ensures, c.name_of.ensures) at c.push_blit.ensures)

pub returns-in-Blit : goal.returns-in-Blit
returns-in-Blit c = rw c.in-Blit.is (rw (c.name_of-source-in-Blit.ensures, c.name_of-in-Blit.ensures) at c.push_blit-in-Blit.ensures)
