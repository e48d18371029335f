-- `write_file` meets its contract: the name of a good link lies inside the pool and is short, and the record with it is written.
use native.Mathlib.Omega.{arith}
use Rattle.file_links.specs.Links.{good_link}
use Rattle.file_links.proofs.Tables.{link_fits}
use Rattle.file_usn.proofs.Writing.{write-replied, parts-short}
use Rattle.file_usn.proofs.write_file.Goals as goal

pub slice_bounds-put_split-end : goal.slice_bounds-put_split-end
slice_bounds-put_split-end c =
    omega (arith, link_fits c.args.pool.now c.args.link c.requires)

pub slice_bounds-put_split-end-2 : goal.slice_bounds-put_split-end-2
slice_bounds-put_split-end-2 c =
    omega (arith, link_fits c.args.pool.now c.args.link c.requires)

pub put_split-requires : goal.put_split-requires
unfolding good_link
put_split-requires c =
    omega (arith, parts-short c.args.pool.now c.args.link.place c.args.link.length c.requires)

pub returns : goal.returns
returns c =
    let a = c.args in
    write-replied a.pool.now a.link a.v a.fields a.output.now c.put_split.new.out c.put_split.result c.put_split.ensures
