-- Schedules of tests/vectors and the text that the definitions print for each, computed by the checker. Written by tests/vectors/definitions.
use mathlib.Core.Path.{◌≡◌, refl, sym, ◌∙◌}
use mathlib.Core.List.{List, [], ◌∷◌}
use Prim.Native.String.{String}
use lib.Count.{ones_in, count_trailing_zeros}
use Rattle.container.specs.Choice.{ite}
use Rattle.container.specs.Container.{has, insert, remove, union, cut, below, from, size, least, drop_least, upper_half, lower_half, split_key}
use Rattle.container.specs.Depths.{put, take_out, merge, within, lower, upper}
use Rattle.definitions.specs.Nodes.{check, replaceable}
use Rattle.definitions.specs.Frames.{between, reaches, adding, back}
use Rattle.definitions.specs.Steps.{reached, onward, followed, blocked, lacks, cleared, lost, probe, replaced, beside, reached_first, reached_next, step}
use Rattle.definitions.specs.Records.{taken, stepped, started, asked, record_step}
use Rattle.definitions.specs.Schedule.{count_of, record_at, file_refusal}
use Rattle.definitions.specs.Run.{bytes_of, run_refusal}
use Rattle.definitions.specs.Listing.{decimal, stations_to, stations_text, route_line, base_line, set_line, list_refusal}
use Rattle.definitions.specs.Printed.{action_word, first_line, depth_text, row_line, last_line, printed}
use Rattle.definitions.proofs.Quick.{quick_printed, quick_printed_printed}
use Rattle.vectors.proofs.Written.{file_of, text_of}

-- ---- 0006

abbrev file0006 : List String
file0006 =
    "010259010024032000200034010000040322030000300030003400000004040000000004040000300030003104300031033000340300000103000020"
    ∷ "002000200030000401130330003404100010001000000014012400200030003000340100001000300030000204000000001000000004021302100010"
    ∷ "003401300020003000330100000000040030001000300023000000000020001401100020002000210430003000200030003000300024002000200024"
    ∷ "043102300031020104000001041000000004042000300000000000340312023000300033013000200024022000030310002000240120001000100030"
    ∷ "003000200024032000000030000000140200000101000001030000100002010000100010000000000030003000300030003000310130001200100010"
    ∷ "003000310430003000310230003000330310001000200020002403000000002000200020003000300010001404210200002000200024002000200000"
    ∷ "003000300030001000000000003000300004020000000000001000100014011000200010001000100010003000300030003000000030002000200030"
    ∷ "003102300021042000200021042000200000000100240420002000000000000000120220002104200030001000200021031000100010002000200004"
    ∷ "040000000000000101000000000000010100000000100000003000040200002000210310001000140310000000000000003304200010000000000000"
    ∷ "000403000000000000300010001000200010002000200023002000130310002000100030003000300030001000100030002000100010003102100010"
    ∷ "001402100010002000200000000000010200003000200010001000300030000000000000000104100030001100100010002304200034043000300010"
    ∷ "003000340230000000140220002000200020003000100010001000000030000404100010001401200021012000200020002000240120001000100010"
    ∷ "002000200020001000200030003000310424041000140210001000000010001000100020001104200020001000300021032000300034013000100014"
    ∷ "031000000000000304000020001000100010001000000000002000140410003000300010001000140030003000000010001000340430003000300034"
    ∷ "043000300030003101100000002000000010001300040010002304200020000000000000001000100020002000300030003000300031013000200030"
    ∷ "003000300034003000100010001000140220002100200020000000300020002104040330003000340230003000000020001000100010002000210220"
    ∷ "000000200020002000240420003000300020002000240220002000000000000000010220002000000010000000000000002000240130003101200020"
    ∷ "002000200020002400200010001401100030000403100010001000100030003000300033043000200020002000230020002000300011021000200020"
    ∷ "002000200010001000100012021000100024031000300030003000300034022000200020002000100010001000100010001403100010002000240020"
    ∷ "000000300030003000300010003000100000000000000010001402100010003102000001020000300020002000200024001000000000001000100020"
    ∷ "0000001302"
    ∷ []

abbrev text0006 : List String
text0006 =
    "records 601 of 601 refusal 0;t2 split 3 no;t0 lookup 0 no;t3 split 1 no;t0 split 3 no;t0 split 4 no;t3 split 0 no;t3 loo"
    ∷ "kup 4 no;t3 lookup 3 no;t0 split 4 no;t0 lookup 3 no;t2 insert 3 yes;t3 split 3 no;t1 remove 3 yes;t3 split 4 no;t0 spli"
    ∷ "t 1 no;t3 split 1 no;t1 split 1 no;t0 insert 4 yes;t2 split 0 no;t3 split 1 no;t0 split 2 no;t1 remove 2 no;t0 split 0 n"
    ∷ "o;t2 remove 0 no;t2 lookup 4 yes;t3 remove 1 no;t2 split 0 no;t3 lookup 2 no;t0 lookup 4 yes;t1 split 1 no;t0 lookup 4 y"
    ∷ "es;t3 lookup 2 no;t0 split 4 no;t3 split 3 no;t2 split 4 no;t2 split 2 no;t1 insert 2 yes;t2 split 1 no;t0 remove 3 no;t"
    ∷ "0 lookup 1 no;t0 lookup 3 no;t1 split 2 yes;t3 remove 1 no;t3 lookup 1 no;t3 lookup 4 yes;t3 lookup 2 yes;t2 split 3 no;"
    ∷ "t2 split 3 no;t1 insert 0 yes;t2 lookup 2 yes;t0 insert 1 yes;t1 split 4 no;t1 split 1 yes;t2 split 0 no;t3 remove 3 no;"
    ∷ "t2 lookup 4 yes;t2 lookup 4 yes;t0 split 2 no;t0 lookup 0 yes;t2 split 4 no;t2 lookup 4 yes;t0 split 4 no;t0 lookup 1 ye"
    ∷ "s;t0 lookup 1 yes;t3 lookup 2 yes;t2 lookup 3 no;t1 insert 2 no;t0 split 2 yes;t1 split 3 no;t2 lookup 3 no;t3 remove 4 "
    ∷ "yes;t1 remove 3 no;t0 split 3 no;t2 remove 0 yes;t0 lookup 2 yes;t1 split 2 no;t3 lookup 2 yes;t1 lookup 0 no;t3 split 4"
    ∷ " no;t0 lookup 4 no;t1 split 2 no;t2 remove 4 no;t2 lookup 1 yes;t2 split 1 no;t3 split 2 no;t1 split 1 no;t1 split 2 no;"
    ∷ "t2 split 4 no;t3 lookup 4 no;t1 lookup 4 no;t0 split 4 no;t1 split 3 no;t1 split 4 no;t3 split 1 no;t3 split 4 no;t3 spl"
    ∷ "it 4 no;t2 lookup 3 no;t0 remove 4 no;t1 split 0 no;t3 lookup 1 yes;t3 lookup 1 yes;t1 remove 0 no;t2 remove 4 no;t0 spl"
    ∷ "it 0 no;t2 lookup 0 no;t3 split 0 no;t2 lookup 4 no;t2 lookup 2 yes;t2 split 4 no;t0 split 3 no;t0 lookup 2 yes;t2 split"
    ∷ " 2 no;t3 split 2 no;t2 split 1 no;t1 split 2 no;t1 split 1 no;t3 lookup 1 yes;t2 split 0 no;t2 remove 0 no;t1 lookup 2 y"
    ∷ "es;t3 remove 4 no;t1 insert 2 no;t2 split 3 no;t3 split 2 no;t1 split 3 no;t0 split 3 no;t2 split 0 no;t1 split 2 no;t0 "
    ∷ "lookup 2 yes;0 route 4;1 route 1;2 normal -;2 route 2;3 normal 1;3 normal 2;1 normal -;set 1 2;stored 2 used 33;"
    ∷ []

computed0006 : quick_printed (file_of file0006) ≡ text_of text0006
unfolding bytes_of record_at between reaches adding back reached_first reached_next asked put take_out merge within lower upper depth_text row_line
    decimal stations_to stations_text route_line base_line set_line list_refusal check replaceable action_word first_line last_line taken stepped
    started record_step run_refusal count_of file_refusal reached onward followed blocked lacks cleared lost probe replaced beside step ite has insert
    remove union cut below from size least drop_least upper_half lower_half split_key ones_in count_trailing_zeros
computed0006 = refl

pub printed0006 : printed (file_of file0006) ≡ text_of text0006
printed0006 = sym (quick_printed_printed (file_of file0006)) ∙ computed0006

-- ---- 0007

abbrev file0007 : List String
file0007 =
    "0100d035122414200030003000120f34133000300032123000300030002000021400000000250f200020001000241020002000240f20002000240f20"
    ∷ "001000000002110000000000000412200021102000241220002000341230000000100000002000000010001000100010001000051400000000241200"
    ∷ "001000121010003000300000000000000000000000100020003311300010002000100030003000200030000000211120002000000025142000200030"
    ∷ "003000300030000000100010000000000010001000100010002000100010000000100030003000300034112000200020001000100010000000000020"
    ∷ "002000200020000211000000000000100010001000000000000000100020003000300030003314200020002000000020003000300030000000300000"
    ∷ "001000100010003000300033143000300005111000100012131000100010000000000000000000000000000000000000000000000000000000000000"
    ∷ "000000000000000000000030001000100010001000100010001000200010003000231120002000200010000000010f000005110000000020002000"
    ∷ []

abbrev text0007 : List String
text0007 =
    "records 208 of 208 refusal 0;t3 join 18 no;t3 split 19 no;t3 insert 18 yes;t2 split 20 no;t2 join 15 no;t2 split 16 no;t"
    ∷ "2 split 15 no;t0 insert 20 yes;t0 insert 17 yes;t2 split 15 no;t2 lookup 16 no;t2 split 18 yes;t0 split 18 no;t1 insert "
    ∷ "15 yes;t3 split 18 no;t2 split 18 no;t2 lookup 17 yes;t3 remove 17 yes;t0 join 20 no;t3 split 17 no;t0 insert 17 yes;t3 "
    ∷ "remove 20 yes;t1 insert 16 yes;t2 join 20 no;t0 join 17 yes;t0 lookup 15 yes;t0 join 17 no;0 neighbour 15 16 17 18;set 1"
    ∷ "5 16 17 18;stored 4 used 19;"
    ∷ []

computed0007 : quick_printed (file_of file0007) ≡ text_of text0007
unfolding bytes_of record_at between reaches adding back reached_first reached_next asked put take_out merge within lower upper depth_text row_line
    decimal stations_to stations_text route_line base_line set_line list_refusal check replaceable action_word first_line last_line taken stepped
    started record_step run_refusal count_of file_refusal reached onward followed blocked lacks cleared lost probe replaced beside step ite has insert
    remove union cut below from size least drop_least upper_half lower_half split_key ones_in count_trailing_zeros
computed0007 = refl

pub printed0007 : printed (file_of file0007) ≡ text_of text0007
printed0007 = sym (quick_printed_printed (file_of file0007)) ∙ computed0007

-- ---- 0008

abbrev file0008 : List String
file0008 =
    "0101e403310000000000000230000000000000022e0000000000000231000000000000032f0000000000000532000000000331123110003231300030"
    ∷ "0030003332300030003000332d3000300030003331300030003000333230003000300032300000000000003000300030003331300030003000352e30"
    ∷ "0030003331300030000233000000000000052e00000000052f0000222e200020002000222f200020002000232d20002000200010000000052e000000"
    ∷ "0001300000222d200020002000252e200030003000300030003000333103330000000000000231000000000000033300000000300030001000100010"
    ∷ "000000052f00000000052d2000252e2000200021302000232e2000200020002533200020002331200020002000253110001000100010001000000000"
    ∷ "001000132f100010001000122e100010000230000000000000013000000330000000000000023310001000100010001000132e100010001000200020"
    ∷ "0023332000200030003000200021302000232e2000200020002233200020002000252f30003000300033303000000000000000023100000000000002"
    ∷ "3220002000132f10001000000000000000052e0000000010001000100010001000253120002000253020002000223320002000200022312000200020"
    ∷ "0023322000200020002532200020002130300030003000300020002332200020002000012f122e1000100010003000122f1000100010001332100010"
    ∷ "0010001333100010001000122d100010001000253220002000232f2000200020002233200020000000032d000030002000252f133310001000100012"
    ∷ "2e10003000300030003000000000000000000000000000032d200020002533200020003532300030003330300030003000352f30003000322d233320"
    ∷ "00100010001000100010001000122f100010003000300030003530300030003233100030003000200020002000200020002000253130002000200010"
    ∷ "00100010001000133010001000100011311000122d10001000300030003000000000000000023200000000000001320000053000000000022f000000"
    ∷ "000000052f00000000032e000010001000100010001000122f3000300030003000300031333000332f30003000300035333000253220002000253220"
    ∷ "002000213120002333200020002000223120002000200030003333300030003000322e30001000300030003333300030003000333330003000000000"
    ∷ "00000000003000322e300030003000353230001000222f30003231300030003000332d30000000000000000000000000000331000000000000052d00"
    ∷ "0000001000022e00003000"
    ∷ []

abbrev text0008 : List String
text0008 =
    "records 484 of 484 refusal 0;t0 remove 49 no;t0 insert 48 yes;t0 insert 46 yes;t0 insert 49 yes;t0 remove 47 no;t0 join "
    ∷ "50 no;t3 insert 49 no;t3 remove 50 no;t3 remove 45 no;t3 remove 49 yes;t3 remove 50 no;t0 remove 49 no;t3 insert 48 no;t"
    ∷ "3 remove 49 no;t3 join 46 no;t0 insert 51 yes;t0 join 46 no;t2 insert 46 no;t2 insert 47 yes;t2 remove 45 no;t0 join 47 "
    ∷ "no;t0 join 46 no;t0 lookup 48 yes;t2 insert 45 yes;t3 remove 49 no;t0 remove 51 yes;t0 insert 49 yes;t0 remove 51 no;t0 "
    ∷ "join 47 no;t2 join 46 no;t2 join 46 no;t2 lookup 48 yes;t2 remove 46 yes;t2 join 51 no;t2 remove 49 yes;t0 join 45 no;t1"
    ∷ " insert 49 yes;t1 remove 47 yes;t0 insert 48 no;t0 lookup 48 yes;t0 remove 48 yes;t1 insert 46 yes;t1 remove 46 yes;t2 j"
    ∷ "oin 49 no;t2 remove 51 no;t2 lookup 48 no;t2 remove 46 no;t2 insert 51 yes;t3 remove 49 yes;t0 insert 51 no;t0 insert 49"
    ∷ " yes;t2 join 47 no;t0 insert 50 yes;t0 join 46 no;t1 remove 47 no;t2 join 49 no;t2 join 48 no;t2 insert 51 no;t2 insert "
    ∷ "49 no;t2 remove 50 yes;t2 join 50 no;t2 lookup 48 no;t2 remove 50 no;t1 insert 46 yes;t1 insert 47 yes;t1 remove 50 no;t"
    ∷ "1 remove 51 yes;t1 insert 45 no;t2 join 50 no;t2 remove 47 yes;t0 lookup 47 no;t2 insert 51 yes;t1 remove 51 yes;t3 remo"
    ∷ "ve 48 no;t0 remove 45 yes;t2 join 47 no;t2 join 51 no;t3 join 50 no;t3 remove 48 no;t3 join 47 no;t1 insert 46 no;t3 ins"
    ∷ "ert 45 yes;t3 join 48 no;t2 remove 51 no;t2 join 49 no;t1 insert 47 yes;t1 remove 48 no;t1 lookup 49 yes;t0 remove 45 ye"
    ∷ "s;t0 insert 50 yes;t0 lookup 50 yes;t0 join 48 no;t0 insert 47 no;t0 join 47 no;t1 insert 45 yes;t3 insert 51 yes;t3 loo"
    ∷ "kup 51 yes;t3 remove 47 yes;t2 join 50 no;t2 join 50 no;t2 lookup 49 yes;t2 remove 51 yes;t2 insert 49 no;t3 join 51 no;"
    ∷ "t3 remove 51 no;t3 insert 46 no;t3 remove 51 no;t3 remove 51 no;t3 insert 46 no;t3 join 50 no;t3 insert 49 no;t0 remove "
    ∷ "46 yes;t0 remove 49 yes;t0 join 45 no;0 normal 45 50;set 45 50;stored 2 used 75;"
    ∷ []

computed0008 : quick_printed (file_of file0008) ≡ text_of text0008
unfolding bytes_of record_at between reaches adding back reached_first reached_next asked put take_out merge within lower upper depth_text row_line
    decimal stations_to stations_text route_line base_line set_line list_refusal check replaceable action_word first_line last_line taken stepped
    started record_step run_refusal count_of file_refusal reached onward followed blocked lacks cleared lost probe replaced beside step ite has insert
    remove union cut below from size least drop_least upper_half lower_half split_key ones_in count_trailing_zeros
computed0008 = refl

pub printed0008 : printed (file_of file0008) ≡ text_of text0008
printed0008 = sym (quick_printed_printed (file_of file0008)) ∙ computed0008
