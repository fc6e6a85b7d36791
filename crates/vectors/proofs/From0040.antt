-- Schedules of tests/vectors and the text that the definitions print for each, computed by the checker. Written by tests/vectors/definitions.
use mathlib.Core.Path.{◌≡◌, refl, sym, ◌∙◌}
use mathlib.Core.List.{List, [], ◌∷◌}
use Prim.Native.String.{String}
use lib.Count.{ones_in, count_trailing_zeros}
use Rattle.container.specs.Choice.{ite}
use Rattle.container.specs.Container.{has, insert, remove, union, cut, below, from, size, least, drop_least, upper_half, lower_half, split_key}
use Rattle.container.specs.Depths.{put, take_out, merge, within, lower, upper}
use Rattle.definitions.specs.Nodes.{check, replaceable}
use Rattle.definitions.specs.Frames.{between, reaches, adding, back}
use Rattle.definitions.specs.Steps.{reached, onward, followed, blocked, lacks, cleared, lost, probe, replaced, beside, reached_first, reached_next, step}
use Rattle.definitions.specs.Records.{taken, stepped, started, asked, record_step}
use Rattle.definitions.specs.Schedule.{count_of, record_at, file_refusal}
use Rattle.definitions.specs.Run.{bytes_of, run_refusal}
use Rattle.definitions.specs.Listing.{decimal, stations_to, stations_text, route_line, base_line, set_line, list_refusal}
use Rattle.definitions.specs.Printed.{action_word, first_line, depth_text, row_line, last_line, printed}
use Rattle.definitions.proofs.Quick.{quick_printed, quick_printed_printed}
use Rattle.vectors.proofs.Written.{file_of, text_of}

-- ---- 0040

abbrev file0040 : List String
file0040 =
    "01014e35033000023100002207123630000000350b10003000200020001000300000003213021b200030003000100010000000300000002000321200"
    ∷ "001000200010000000300000002000100012033000300010000000000030002000200020003000300020000000100000003000000035311000100020"
    ∷ "0030002000100000003000100020002000200010001000000010001000323430000000000000002231011c00002000041d2000100030002000300030"
    ∷ "00222f0000100020000000000010001000100020001000020f3000100000000000300011353000300000000000000002231000000010003000300032"
    ∷ "022000000014073000100000001000200010001000000000003000200010001417200020003000000010003000100010000211100030000000300000"
    ∷ "001000000020002000200020003000100010003000200000001432100020000000200020003000000000001000200000000000213410002000300030"
    ∷ "00200010003000241b200020000000000000000000100000002000050b00003230000020002000000030002000112800003000223a00001000000000"
    ∷ "003000100010000000121d20001000300010003000100000003000200035122000100020000000300030001000200030002000100020003000100030"
    ∷ "002419100020001000100010003000200030001000200020003000100030000000152600000000200020002000000010000000200000000000100030"
    ∷ "002237200000001000100020002000100032130000200020003000100000000000200030002000253810000000100010002000300020001000100030"
    ∷ "000000200012011000300030003000100000002000300030003421000030000437000010001000100020002000200030000000000010000000200020"
    ∷ "0030003000000030003000"
    ∷ []

abbrev text0040 : List String
text0040 =
    "records 334 of 334 refusal 0;t3 join 3 no;t3 join 11 no;t0 insert 49 yes;t3 insert 19 yes;t1 insert 54 yes;t3 insert 18 "
    ∷ "yes;t3 join 49 no;t2 insert 7 yes;t0 insert 27 yes;t0 lookup 28 no;t2 insert 49 no;t0 split 29 yes;t1 insert 3 yes;t0 in"
    ∷ "sert 15 yes;t1 lookup 53 no;t3 insert 52 yes;t1 split 7 yes;t0 insert 35 yes;t1 split 23 yes;t2 insert 47 yes;t2 lookup "
    ∷ "52 yes;t3 insert 2 yes;t1 split 50 no;t0 insert 17 yes;t2 split 27 yes;t1 lookup 40 no;t3 insert 48 yes;t2 insert 58 yes"
    ∷ ";t1 insert 29 yes;t2 split 25 yes;t3 join 18 no;t2 insert 55 yes;t1 join 38 no;t3 insert 19 no;t0 join 11 yes;t1 insert "
    ∷ "1 yes;t3 split 33 yes;0 route 27;1 route 18;2 normal 1 2 3 7 15 17;2 route 19;3 normal 18;3 normal 19;1 route 49;2 route"
    ∷ " 35;3 normal 27 29;3 normal 35 47 48;2 main 49 52 54 55 58;set 1 2 3 7 15 17 18 19 27 29 35 47 48 49 52 54 55 58;stored "
    ∷ "18 used 44;"
    ∷ []

computed0040 : quick_printed (file_of file0040) ≡ text_of text0040
unfolding bytes_of record_at between reaches adding back reached_first reached_next asked put take_out merge within lower upper depth_text row_line
    decimal stations_to stations_text route_line base_line set_line list_refusal check replaceable action_word first_line last_line taken stepped
    started record_step run_refusal count_of file_refusal reached onward followed blocked lacks cleared lost probe replaced beside step ite has insert
    remove union cut below from size least drop_least upper_half lower_half split_key ones_in count_trailing_zeros
computed0040 = refl

pub printed0040 : printed (file_of file0040) ≡ text_of text0040
printed0040 = sym (quick_printed_printed (file_of file0040)) ∙ computed0040

-- ---- 0041

abbrev file0041 : List String
file0041 =
    "01005c143c1000343e30003000233e333e300030003000343c1000143c1000300020002000023c20003000343d3000243e10003000313d3000323d30"
    ∷ "0020002000223d0000200020002000223e30003000143d100020001000143e10001000143d10001000123e1000000010001000123c10003000300030"
    ∷ "003000313e3000353d200020002000200020002000213d3000100020000000100010001000100010000000000000000000113c30001000323c300024"
    ∷ "3d200020002000"
    ∷ []

abbrev text0041 : List String
text0041 =
    "records 92 of 92 refusal 0;t3 split 62 no;t3 remove 62 no;t1 split 60 no;t2 remove 62 no;t3 split 60 no;t1 split 60 no;t"
    ∷ "3 split 61 no;t3 lookup 61 no;t2 split 62 no;t2 insert 61 yes;t1 split 61 no;t1 split 62 no;t1 split 61 no;t1 insert 62 "
    ∷ "yes;t3 insert 61 no;t3 lookup 62 yes;t2 insert 62 no;t2 lookup 61 yes;t1 insert 60 yes;t0 insert 60 no;t3 join 61 no;t1 "
    ∷ "lookup 60 yes;t2 split 61 yes;0 route 61;1 normal 60;1 normal 61 62;set 60 61 62;stored 3 used 12;"
    ∷ []

computed0041 : quick_printed (file_of file0041) ≡ text_of text0041
unfolding bytes_of record_at between reaches adding back reached_first reached_next asked put take_out merge within lower upper depth_text row_line
    decimal stations_to stations_text route_line base_line set_line list_refusal check replaceable action_word first_line last_line taken stepped
    started record_step run_refusal count_of file_refusal reached onward followed blocked lacks cleared lost probe replaced beside step ite has insert
    remove union cut below from size least drop_least upper_half lower_half split_key ones_in count_trailing_zeros
computed0041 = refl

pub printed0041 : printed (file_of file0041) ≡ text_of text0041
printed0041 = sym (quick_printed_printed (file_of file0041)) ∙ computed0041

-- ---- 0042

abbrev file0042 : List String
file0042 =
    "01020e053900000000053700000000023800000000000002370000143a10001000123910001000100014391000100034383000300010001539100010"
    ∷ "001000000000000000100010001000100010001000100010001000100025372000200020002538000000001000100010001000100010001000300031"
    ∷ "383000353a30003000313830003437300014371000100010001537100010001000100010001000100000000000000000000000000000000000000000"
    ∷ "000000000000002000200020002000200020002000200020002000200004390000000030001000100010001438300032383000300030003000300030"
    ∷ "003000300030002000200020003438300030003000300030003339300030003000300030003000313a30003000323930003000100010001000100014"
    ∷ "3a1000100030003000300020002000223720003000323930003000300030003000300032373000200020002000200020002438000004370000000000"
    ∷ "0000000237000000000000000000000000043a0000000000000138000000000000300030003000300030003139300010001238100010001000200020"
    ∷ "001000100010001000143a100010001000200020002538200020002000200020002000200020002000200020003000353a3000300020002000200012"
    ∷ "3701371000100010001000200020002000000020002000200020002000200020002000223a2000200020002000200020000000053900000000253800"
    ∷ "0000000000000000000000100010001000100010001000153a200020002000200020002000223a100010001000123710001000100010001000200020"
    ∷ "00200020002000200020002000153a100010001000100010001000100010001000100010001000100010001000300030003000353730003000300010"
    ∷ "00100010001000100014371000100010001239100010001000100010001000113710001000123935393000000000000000033a000000000000000000"
    ∷ "000000043800000000000000001000100010001000100010001239100010001000100010001000200020002000200020002000200030003000300030"
    ∷ "00300030003000200020002000200030003000300030003000300030003000300030001437100010001000153810000000053a000000000000053700"
    ∷ "000000000004390000000000000237000000000000000020002000200020002000200020002000000000000000000000002000200024372000200020"
    ∷ "002239200020002000200020002000223720002000200020002000243820001000100014391000100010001000100010001439100010000000000010"
    ∷ "001000153a10001000100010001000000000000000053730003000323930003000200020002000200024382000200020002000213a20002000200022"
    ∷ "3820002000300030003000300034393000000000000000000000000000200020002000"
    ∷ []

abbrev text0042 : List String
text0042 =
    "records 526 of 526 refusal 0;t0 join 57 no;t0 join 55 no;t0 insert 56 yes;t1 split 58 no;t1 insert 57 yes;t1 split 57 ye"
    ∷ "s;t2 join 55 no;t1 join 57 yes;t3 split 56 no;t3 lookup 56 yes;t3 join 58 no;t3 lookup 56 yes;t1 split 55 yes;t0 insert "
    ∷ "55 yes;t1 join 55 no;t3 split 55 no;t3 insert 56 no;t3 split 56 yes;t3 remove 57 yes;t3 lookup 58 no;t1 split 56 no;t2 j"
    ∷ "oin 56 no;t3 insert 57 yes;t3 insert 57 no;t2 insert 55 no;t0 split 57 no;t0 split 55 no;t0 insert 55 no;t0 split 58 no;"
    ∷ "t0 lookup 56 yes;t3 insert 55 no;t1 split 58 no;t1 insert 56 no;t1 split 58 no;t2 split 56 no;t3 lookup 57 yes;t2 join 5"
    ∷ "6 yes;t2 insert 58 yes;t0 lookup 55 yes;t1 insert 55 no;t2 join 56 no;t1 join 58 no;t1 insert 55 no;t3 join 58 no;t3 joi"
    ∷ "n 55 no;t1 join 58 yes;t1 split 55 yes;t1 insert 57 no;t1 lookup 55 yes;t0 join 57 no;t0 remove 58 yes;t1 insert 57 no;t"
    ∷ "1 insert 57 no;t1 split 55 no;t0 split 56 no;t0 join 58 no;t0 join 55 no;t0 split 57 no;t2 insert 58 yes;t2 split 55 yes"
    ∷ ";t2 insert 57 no;t2 insert 55 no;t1 join 56 no;t1 split 57 yes;t1 split 57 no;t0 insert 55 no;t3 join 57 yes;t2 split 56"
    ∷ " yes;t2 split 56 no;t2 lookup 58 yes;t3 insert 57 no;0 route 57;1 route 56;2 normal 55;2 normal 56;1 route 58;2 normal 5"
    ∷ "7;2 normal 58;set 55 56 57 58;stored 4 used 61;"
    ∷ []

computed0042 : quick_printed (file_of file0042) ≡ text_of text0042
unfolding bytes_of record_at between reaches adding back reached_first reached_next asked put take_out merge within lower upper depth_text row_line
    decimal stations_to stations_text route_line base_line set_line list_refusal check replaceable action_word first_line last_line taken stepped
    started record_step run_refusal count_of file_refusal reached onward followed blocked lacks cleared lost probe replaced beside step ite has insert
    remove union cut below from size least drop_least upper_half lower_half split_key ones_in count_trailing_zeros
computed0042 = refl

pub printed0042 : printed (file_of file0042) ≡ text_of text0042
printed0042 = sym (quick_printed_printed (file_of file0042)) ∙ computed0042

-- ---- 0043

abbrev file0043 : List String
file0043 =
    "0100290417000000000213150910001000151410001000240e20002000251021002000140c10001000121a3124300034143000100010000000000000"
    ∷ "00020700000000000005110000000003210000300033143000"
    ∷ []

abbrev text0043 : List String
text0043 =
    "records 14 of 41 refusal 11;t0 split 23 no;t1 join 9 no;t1 join 20 no;t2 split 14 no;0 normal -;set -;stored 0 used 1;"
    ∷ []

computed0043 : quick_printed (file_of file0043) ≡ text_of text0043
unfolding bytes_of record_at between reaches adding back reached_first reached_next asked put take_out merge within lower upper depth_text row_line
    decimal stations_to stations_text route_line base_line set_line list_refusal check replaceable action_word first_line last_line taken stepped
    started record_step run_refusal count_of file_refusal reached onward followed blocked lacks cleared lost probe replaced beside step ite has insert
    remove union cut below from size least drop_least upper_half lower_half split_key ones_in count_trailing_zeros
computed0043 = refl

pub printed0043 : printed (file_of file0043) ≡ text_of text0043
printed0043 = sym (quick_printed_printed (file_of file0043)) ∙ computed0043

-- ---- 0044

abbrev file0044 : List String
file0044 =
    "0101890521243020002000242c20002000342600000000052330003000342b0000000002282430000000000000300030003230300030000423000015"
    ∷ "241000100012381000100010001439100010001000152a10002000200020002539200030003000100010001000100030001000100010001000100020"
    ∷ "002000253c20002000300020002438200020002000252b20002000200010001000100010001000100010001000100010001000142f10001000100030"
    ∷ "003000300030001430100023312000200020002000300030002000200020002000200020002000253d1000332e300030003000300020001000300034"
    ∷ "3030000000042c0000300030003000000000000000000004300000200020002000000000000000042e30000000000000000000052e00000000000010"
    ∷ "003433300020001000132f10001000100010001000000000001000152910001000100010001000100010001000300020000000000000003000200020"
    ∷ "00200020002000200020002000200020002000200020002000100010001000143b100010001000142c30002000042d0000000000000000322e300020"
    ∷ "00042d000000000000032f00003000300030003000300035353000300030003335300030003000000000000000300030003000300030000000100010"
    ∷ "0010001000032f30003000300030003000300030001000152e000000000000000010000000343a300030003000300030003000352630001000100010"
    ∷ "002000100010003000300030003000300030003000300030003000300030003000300030000000000024323000300010001000000020002000200020"
    ∷ "00252f2000132d1000100010003000300030003000100010001000100010001000200020002000242e20002000200020002522200020002000200025"
    ∷ "2f2000200020002000222d20002000200020002000200020002000000000000000000000000000000000000000000000000000000000000000000005"
    ∷ "35000000000000000010000000300010000000000000000000000030003000300032281000100020002000100010003000300010001000142e100010"
    ∷ "003000300020002000"
    ∷ []

abbrev text0044 : List String
text0044 =
    "records 393 of 393 refusal 0;t2 split 48 no;t2 split 44 no;t0 join 33 no;t3 split 38 no;t0 join 35 no;t0 insert 40 yes;t"
    ∷ "3 split 43 no;t1 join 36 no;t1 insert 56 yes;t1 split 57 yes;t2 split 48 no;t2 join 57 no;t2 join 60 no;t2 split 56 no;t"
    ∷ "2 join 43 no;t1 join 42 yes;t1 split 47 yes;t3 insert 48 yes;t2 remove 49 no;t3 remove 46 no;t0 split 35 no;t0 split 44 "
    ∷ "yes;t0 split 48 no;t3 split 48 no;t0 split 46 no;t1 split 48 no;t1 remove 47 no;t0 join 46 no;t1 join 41 no;t1 split 59 "
    ∷ "no;t3 split 51 no;t0 split 45 no;t0 split 45 no;t3 insert 46 yes;t3 join 53 no;t0 remove 47 no;t3 remove 53 no;t1 split "
    ∷ "44 yes;t3 split 58 yes;t2 join 61 yes;t1 join 46 no;t2 split 50 no;t2 join 47 no;t2 split 46 no;t2 join 34 no;t2 join 47"
    ∷ " no;t0 remove 47 no;t3 join 38 yes;t1 remove 45 no;0 route 48;1 normal 40 46;1 route 56;2 main 48;2 normal 56;set 40 46 "
    ∷ "48 56;stored 4 used 38;"
    ∷ []

computed0044 : quick_printed (file_of file0044) ≡ text_of text0044
unfolding bytes_of record_at between reaches adding back reached_first reached_next asked put take_out merge within lower upper depth_text row_line
    decimal stations_to stations_text route_line base_line set_line list_refusal check replaceable action_word first_line last_line taken stepped
    started record_step run_refusal count_of file_refusal reached onward followed blocked lacks cleared lost probe replaced beside step ite has insert
    remove union cut below from size least drop_least upper_half lower_half split_key ones_in count_trailing_zeros
computed0044 = refl

pub printed0044 : printed (file_of file0044) ≡ text_of text0044
printed0044 = sym (quick_printed_printed (file_of file0044)) ∙ computed0044

-- ---- 0045

abbrev file0045 : List String
file0045 =
    "010100132033263000300030003316300030003000322c3000300030003320300030003000351d300030003515300030003528300030003526300030"
    ∷ "000318000000000000032610001000353130003000322830003000251f20001000152f10001000133310001000100013243000300030003000300033"
    ∷ "2e300030003000332310002000300030001000100013141000100010001322100010001000152010001000131d100010001000131d10001000100013"
    ∷ "1d100010001000132610001000231e20002000100020002000200020002000231e20002000200025192000200025363000300020002000231a200015"
    ∷ "1f1000100015191000100013281000100010001521100010003000300030003334300030003000351430001212100010001000132210001000100015"
    ∷ "330000000000000328000000000000021f0000000000000321000000000000032f000000000000022a00000000000002320000000000001000100013"
    ∷ "23100010001000151c10001000131c100010001000132f100010001000131c052100000000031c000000000000052300002000200020002000200020"
    ∷ "00222e000003250000300000000000100010001000131d10001000100013231000100010001321100010001000152e10001000152110001000053200"
    ∷ "000000032f1333352630003000332d200020002000232b200020002000232420002000"
    ∷ []

abbrev text0045 : List String
text0045 =
    "records 256 of 256 refusal 0;t3 remove 38 no;t3 remove 22 no;t3 insert 44 yes;t3 remove 32 no;t3 join 29 no;t3 join 21 n"
    ∷ "o;t3 join 40 no;t3 join 38 no;t0 remove 24 no;t3 join 49 no;t1 remove 32 no;t1 join 47 no;t1 remove 51 no;t3 insert 40 y"
    ∷ "es;t3 remove 46 no;t2 join 31 no;t1 remove 36 no;t1 remove 20 no;t1 remove 34 no;t1 join 32 no;t1 remove 29 no;t1 remove"
    ∷ " 29 no;t1 remove 29 no;t1 remove 38 no;t2 remove 30 no;t2 remove 30 no;t2 join 25 no;t2 join 54 no;t1 join 31 no;t1 join"
    ∷ " 25 no;t1 remove 40 yes;t1 join 33 no;t3 remove 35 no;t3 remove 52 no;t1 insert 18 yes;t1 remove 34 no;t0 remove 38 no;t"
    ∷ "0 remove 40 no;t0 insert 31 yes;t0 remove 33 no;t0 remove 47 no;t0 insert 42 yes;t0 insert 50 yes;t1 join 51 no;t1 remov"
    ∷ "e 35 no;t1 join 28 no;t1 remove 28 no;t1 remove 47 no;t0 join 33 no;t0 remove 28 no;t2 remove 26 no;t0 join 35 no;t3 joi"
    ∷ "n 20 no;t0 remove 37 no;t1 remove 28 no;t1 remove 29 no;t1 remove 35 no;t1 remove 33 no;t1 join 46 no;t1 join 33 no;t0 j"
    ∷ "oin 50 no;t3 join 38 no;t2 insert 46 yes;t2 remove 43 no;0 normal 18 31 42 44 46 50;set 18 31 42 44 46 50;stored 6 used "
    ∷ "43;"
    ∷ []

computed0045 : quick_printed (file_of file0045) ≡ text_of text0045
unfolding bytes_of record_at between reaches adding back reached_first reached_next asked put take_out merge within lower upper depth_text row_line
    decimal stations_to stations_text route_line base_line set_line list_refusal check replaceable action_word first_line last_line taken stepped
    started record_step run_refusal count_of file_refusal reached onward followed blocked lacks cleared lost probe replaced beside step ite has insert
    remove union cut below from size least drop_least upper_half lower_half split_key ones_in count_trailing_zeros
computed0045 = refl

pub printed0045 : printed (file_of file0045) ≡ text_of text0045
printed0045 = sym (quick_printed_printed (file_of file0045)) ∙ computed0045
