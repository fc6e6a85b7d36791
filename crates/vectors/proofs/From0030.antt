-- Schedules of tests/vectors and the text that the definitions print for each, computed by the checker. Written by tests/vectors/definitions.
use mathlib.Core.Path.{◌≡◌, refl, sym, ◌∙◌}
use mathlib.Core.List.{List, [], ◌∷◌}
use Prim.Native.String.{String}
use lib.Count.{ones_in, count_trailing_zeros}
use Rattle.container.specs.Choice.{ite}
use Rattle.container.specs.Container.{has, insert, remove, union, cut, below, from, size, least, drop_least, upper_half, lower_half, split_key}
use Rattle.container.specs.Depths.{put, take_out, merge, within, lower, upper}
use Rattle.definitions.specs.Nodes.{check, replaceable}
use Rattle.definitions.specs.Frames.{between, reaches, adding, back}
use Rattle.definitions.specs.Steps.{reached, onward, followed, blocked, lacks, cleared, lost, probe, replaced, beside, reached_first, reached_next, step}
use Rattle.definitions.specs.Records.{taken, stepped, started, asked, record_step}
use Rattle.definitions.specs.Schedule.{count_of, record_at, file_refusal}
use Rattle.definitions.specs.Run.{bytes_of, run_refusal}
use Rattle.definitions.specs.Listing.{decimal, stations_to, stations_text, route_line, base_line, set_line, list_refusal}
use Rattle.definitions.specs.Printed.{action_word, first_line, depth_text, row_line, last_line, printed}
use Rattle.definitions.proofs.Quick.{quick_printed, quick_printed_printed}
use Rattle.vectors.proofs.Written.{file_of, text_of}

-- ---- 0030

abbrev file0030 : List String
file0030 =
    "0101d8042900000000121f100010001000120a1000241b20002000221f200020002000210a2000252520002000242320002000222720002000200025"
    ∷ "24200020002217200020002000341330003000052b21122000241c2000300034243000300030003000300010003000340b3000300030003516300030"
    ∷ "003000300030003000300030003000300030003000100010001000100010003000300030003000300020002000231a20002000200020002000200020"
    ∷ "002000200020002000200020002000241620002000200020002000242c20002000300010001000100010003000300000000000100020002417200020"
    ∷ "00200010001000142a100010001000141410001000100010001000100012131000100010001000000000000000000000000000000000000000000000"
    ∷ "0000000000000000000000000000000000000000000525000000002000100010001000140e1000100010001000331830003000300030003000300030"
    ∷ "00332530003000300030000000000000003000300010001000150b10001000100010001000100000000000000000001000332530003000032a000000"
    ∷ "000000000000000000042900000000000000000000000001260000000000000524251220002000200020002000200020002000200020001000100020"
    ∷ "00300030003000121b100010001000100010003000300030003000300030003000340930001000100015141000100010001000100010003000200020"
    ∷ "002000200020002000000000000000000000000000000030003000300032153000300030003000300030003000300030003000300030003000300000"
    ∷ "000000000000000000000035160000000010001518100010000000000000000000000000000000200010001000100010001000100030003000300030"
    ∷ "002000200020002000230f20002000200020003000300030001000200020002000000000000000000000002209200020002000200020002000200024"
    ∷ "2b200020002000300030003000300030000308000000000000000000000000200020002000231a200020000000000020002000200020002000241100"
    ∷ "000000200020002000200020002000200000000000000000000000000030003000300030003000300030003000000021262000200020002425200020"
    ∷ "002000200024212000200020002000222420003000300032132000200000003000300000000000000010002000120910001000100010000000040b00"
    ∷ "0000000000000000000000100010001000100020001411100030003000300030003000300032223000300030002000"
    ∷ []

abbrev text0030 : List String
text0030 =
    "records 472 of 472 refusal 0;t0 split 41 no;t1 insert 31 yes;t2 split 27 no;t2 insert 31 no;t2 lookup 10 no;t2 join 37 n"
    ∷ "o;t2 split 35 no;t2 insert 39 yes;t2 join 36 no;t2 insert 23 yes;t2 lookup 18 no;t3 split 19 yes;t3 split 36 yes;t3 spli"
    ∷ "t 11 no;t2 split 28 no;t2 remove 26 no;t2 split 22 yes;t3 join 22 yes;t2 split 44 no;t1 insert 10 yes;t1 split 42 no;t1 "
    ∷ "split 20 yes;t0 join 43 yes;t2 split 23 no;t1 insert 19 yes;t3 remove 24 no;t3 remove 37 no;t1 split 14 yes;t0 join 37 n"
    ∷ "o;t0 remove 42 no;t0 split 41 yes;t0 lookup 38 no;t1 join 11 no;t3 remove 37 no;t1 insert 27 yes;t3 split 9 no;t3 insert"
    ∷ " 21 yes;t1 join 20 no;t2 join 18 no;t2 remove 15 no;t0 join 36 yes;t2 insert 9 yes;t2 split 43 yes;t2 remove 26 no;t2 sp"
    ∷ "lit 17 yes;t2 lookup 38 no;t2 split 37 no;t2 split 33 no;t3 join 22 no;t1 join 24 no;t0 remove 8 no;t0 split 11 no;t1 in"
    ∷ "sert 9 no;t3 insert 19 no;t2 insert 36 yes;0 route 31;1 route 23;2 route 19;3 route 10;4 normal 9;4 normal 10;3 normal 1"
    ∷ "9 21;2 normal 23 27;1 route 39;2 normal 31 36;2 normal 39;set 9 10 19 21 23 27 31 36 39;stored 9 used 58;"
    ∷ []

computed0030 : quick_printed (file_of file0030) ≡ text_of text0030
unfolding bytes_of record_at between reaches adding back reached_first reached_next asked put take_out merge within lower upper depth_text row_line
    decimal stations_to stations_text route_line base_line set_line list_refusal check replaceable action_word first_line last_line taken stepped
    started record_step run_refusal count_of file_refusal reached onward followed blocked lacks cleared lost probe replaced beside step ite has insert
    remove union cut below from size least drop_least upper_half lower_half split_key ones_in count_trailing_zeros
computed0030 = refl

pub printed0030 : printed (file_of file0030) ≡ text_of text0030
printed0030 = sym (quick_printed_printed (file_of file0030)) ∙ computed0030

-- ---- 0031

abbrev file0031 : List String
file0031 =
    "01024d0519351c300000000000011b000011181000151c21192000211a2000241b200020003000311b300035183000300031183000351a241a200020"
    ∷ "00241b20002000251b20002000211a2000241b2000051a00000000011b2000231a20002000200030003000351b300030003219300030001000100015"
    ∷ "1a10001000111b100011191000151b100010001519100010000000041b3000331c300030003000311b3000311a3000351c3000300000000000021a35"
    ∷ "1b30003000231c20002000000000000000051c2000200020002000151b10001000111c1000151910001000121b100010001000121b10001000100015"
    ∷ "191000100015181000100000000000351c30003000351b3000300031183000351b011c00000118000015191000200030003000321c30001000151b10"
    ∷ "00100012191000100002182000200030003000331a3000300000000000000010001000100030002000051a00000000011b0000200020002000300030"
    ∷ "00100020002000300030003000221c3000200020002000241a2000021b000000000000041800000000000010001000100020002000241c2000200030"
    ∷ "003000031a2000200020002000300030003000000000001000100010001000111b100010001000141b10001000100010001000100010001318100010"
    ∷ "00100010001000241a20002000200020001218100030003000300030003418300030003000311b251c20002000200020002000200020002000100020"
    ∷ "0020002000200020002000300020002000300000000000000030003000311c2000200020003000200020000000041a0000000000000000011c000010"
    ∷ "0010001000151b3000300030003518100000000000200020001000100010000000011c3000300030000000200020001000111b100010001000100012"
    ∷ "1b100010003000300030001000100010001000200020002000241c300030003000300010001000300030003000300030003000300030003000000000"
    ∷ "0010001000300035183000300030003000300030003000300030003000300030003000021800003000200020002000211b2000200010001000211c20"
    ∷ "002000300000000000100010001000100030001000100010001000100024191000100010001000100015191000000000000000000005190000000005"
    ∷ "180000000001180000051b0000000004190000000020000000021800000000000000001000000015181000100010001000031b000000000000000000"
    ∷ "0010003000300030003000351c30003000200020002119300030002000200024182000200000003000021c0000000000000000100020001000200020"
    ∷ "00311b00001000100030003000341b300030003000341c30003000000004190000000030003519300030003000221a321a3000300020002000200020"
    ∷ "002000000000000000031b00000000000010003000000000000000041c00002000200030003000300000000000051900002000200030003000300030"
    ∷ "00300030003000311b3000300032183000300000000000000030002000300030003000351c3000300020002000200020002000200020002000221c20"
    ∷ "0020003000300000000000011a2000200020002000221b200020002000300034193000300030003000"
    ∷ []

abbrev text0031 : List String
text0031 =
    "records 589 of 589 refusal 0;t0 join 25 no;t0 lookup 27 no;t1 lookup 24 no;t2 lookup 25 no;t2 lookup 26 no;t2 split 27 n"
    ∷ "o;t3 join 28 no;t3 lookup 27 no;t3 join 24 no;t3 lookup 24 no;t2 split 26 no;t2 split 27 no;t2 join 27 no;t2 lookup 26 n"
    ∷ "o;t0 join 26 no;t2 split 27 no;t2 remove 26 no;t3 join 26 no;t3 join 27 no;t1 join 28 no;t1 join 26 no;t1 lookup 27 no;t"
    ∷ "1 lookup 25 no;t1 join 27 no;t1 join 25 no;t0 lookup 27 no;t3 insert 25 yes;t3 remove 28 no;t3 lookup 27 no;t3 lookup 26"
    ∷ " no;t3 join 28 no;t0 split 27 no;t3 join 27 no;t0 insert 26 yes;t1 join 27 no;t1 lookup 28 no;t1 join 25 no;t1 insert 27"
    ∷ " yes;t1 insert 27 no;t1 join 25 no;t1 join 24 no;t0 join 28 no;t3 join 28 no;t3 join 27 no;t3 lookup 24 no;t0 lookup 28 "
    ∷ "no;t0 lookup 24 no;t3 join 27 no;t1 join 25 no;t1 join 27 no;t3 insert 28 yes;t0 insert 24 yes;t0 join 26 no;t0 lookup 2"
    ∷ "7 yes;t2 remove 28 yes;t2 insert 28 yes;t0 insert 27 no;t0 split 24 yes;t2 split 26 no;t2 split 28 yes;t1 insert 25 no;t"
    ∷ "1 lookup 27 yes;t1 split 27 yes;t1 remove 24 yes;t2 split 26 no;t3 remove 26 yes;t3 split 24 no;t3 lookup 27 yes;t0 remo"
    ∷ "ve 26 no;t0 split 26 no;t1 insert 24 yes;t3 lookup 28 yes;t0 lookup 28 yes;t1 join 27 no;t1 lookup 27 yes;t2 join 28 yes"
    ∷ ";t0 lookup 28 yes;t3 join 24 yes;t2 split 28 no;t2 lookup 27 yes;t2 lookup 28 yes;t1 insert 27 no;t0 insert 24 no;t0 joi"
    ∷ "n 25 no;t0 join 24 no;t0 lookup 24 yes;t0 join 27 no;t0 split 25 yes;t1 join 25 no;t0 insert 24 no;t3 join 24 yes;t2 spl"
    ∷ "it 25 no;t2 lookup 25 yes;t0 remove 27 yes;t3 join 28 no;t2 split 24 no;t3 lookup 27 no;t3 split 27 no;t0 insert 28 no;t"
    ∷ "3 split 28 no;t3 join 25 no;t0 split 25 yes;t1 join 24 no;t0 remove 27 no;t0 split 28 no;t3 insert 26 yes;t3 lookup 27 n"
    ∷ "o;t3 insert 24 no;t2 insert 26 no;t0 join 25 no;t2 insert 28 no;t3 join 28 no;0 route 27;1 route 25;2 normal 24;2 normal"
    ∷ " 25 26;1 normal 28;set 24 25 26 28;stored 4 used 52;"
    ∷ []

computed0031 : quick_printed (file_of file0031) ≡ text_of text0031
unfolding bytes_of record_at between reaches adding back reached_first reached_next asked put take_out merge within lower upper depth_text row_line
    decimal stations_to stations_text route_line base_line set_line list_refusal check replaceable action_word first_line last_line taken stepped
    started record_step run_refusal count_of file_refusal reached onward followed blocked lacks cleared lost probe replaced beside step ite has insert
    remove union cut below from size least drop_least upper_half lower_half split_key ones_in count_trailing_zeros
computed0031 = refl

pub printed0031 : printed (file_of file0031) ≡ text_of text0031
printed0031 = sym (quick_printed_printed (file_of file0031)) ∙ computed0031

-- ---- 0032

abbrev file0032 : List String
file0032 =
    "01017e241431143000131432143000011410002000100020001000151524142000200030000000251510003000200020003000031510001514000000"
    ∷ "002515300030002000100030000000200010003515000030002114300034150000000000001514200030003000321401150000100010000214000030"
    ∷ "002215111510003000200000001114300031142000000010002000300020001115000010000000341400002000300000003000121520003414051520"
    ∷ "000000300020002000000010000515000030001000200010001414321400000415000020000000100000001000200004142000100012142000100000"
    ∷ "002000300020003000100020001000300010000000000005151000200022150000300030001514300020001000300030002000200020003000200020"
    ∷ "002414100020001000000000002000300010000000000020001000300022142000200010003314100030002000300030002000111500002000100024"
    ∷ "150000200020003000100015152000300010000000000000003000000005152314100000003000200030003000300020003000100000003214100020"
    ∷ "002000100000002000200020001000000030002000000030003000300010000000200020001000000020000000100003141000221410001414200030"
    ∷ "001000300030001000000010003000300011150000200030003000321430001000000010003000000020001115200030002000300030002000331430"
    ∷ "000000000030003000000030000000100010000000121420003000321420002000100000003000100030000000200020002314000020003000300030"
    ∷ "001000100010001000300030001000100030000000300030000000300000000000311430001000000010003000200035150000200030001000300000"
    ∷ "002000200000000000000000003000241520003000051500000000100020000000300000002000300030002315200020002000000010001000000030"
    ∷ "0000001000300030000000021520002000100010000000200020003000100010003000000020002000300000003000"
    ∷ []

abbrev text0032 : List String
text0032 =
    "records 382 of 382 refusal 0;t3 lookup 20 no;t2 split 20 no;t1 remove 20 no;t2 split 20 no;t0 lookup 20 no;t2 join 21 no"
    ∷ ";t1 join 21 no;t3 insert 20 yes;t2 join 21 no;t1 join 20 no;t3 join 21 no;t0 remove 21 no;t2 lookup 20 yes;t3 split 21 n"
    ∷ "o;t0 lookup 21 no;t1 join 20 no;t1 lookup 21 no;t3 insert 20 no;t1 lookup 20 yes;t3 lookup 20 yes;t1 lookup 21 no;t0 ins"
    ∷ "ert 20 no;t3 split 20 no;t0 join 21 no;t3 split 20 no;t1 insert 21 yes;t0 join 21 no;t0 split 21 yes;t1 split 20 no;t0 s"
    ∷ "plit 20 no;t1 insert 20 no;t2 insert 21 no;t2 insert 21 no;t2 split 20 no;t3 insert 20 no;t1 join 20 no;t2 insert 20 no;"
    ∷ "t1 lookup 21 yes;t2 split 21 no;t0 join 21 no;t3 remove 20 yes;t2 remove 20 no;t0 join 21 no;t1 join 21 no;t1 split 20 n"
    ∷ "o;t3 insert 20 yes;t1 lookup 21 yes;t3 insert 20 no;t1 lookup 21 yes;t3 remove 20 yes;t2 insert 20 yes;t3 insert 20 no;t"
    ∷ "3 lookup 20 yes;t2 remove 20 yes;t0 remove 20 no;t2 split 21 no;t0 join 21 no;0 route 21;1 neighbour -;1 main 21;set 21;"
    ∷ "stored 1 used 29;"
    ∷ []

computed0032 : quick_printed (file_of file0032) ≡ text_of text0032
unfolding bytes_of record_at between reaches adding back reached_first reached_next asked put take_out merge within lower upper depth_text row_line
    decimal stations_to stations_text route_line base_line set_line list_refusal check replaceable action_word first_line last_line taken stepped
    started record_step run_refusal count_of file_refusal reached onward followed blocked lacks cleared lost probe replaced beside step ite has insert
    remove union cut below from size least drop_least upper_half lower_half split_key ones_in count_trailing_zeros
computed0032 = refl

pub printed0032 : printed (file_of file0032) ≡ text_of text0032
printed0032 = sym (quick_printed_printed (file_of file0032)) ∙ computed0032

-- ---- 0033

abbrev file0033 : List String
file0033 =
    "01014b04260000000034373000051700003000341d300024373000342a20002000251720002000143a30003000351910001000300000001539100010"
    ∷ "00222c200015251000300020002000242a342330003000323e200020001000153010001000141d10003000300030003423300030003000343c300030"
    ∷ "003000351c223d2000053930003000300030003000300030001000153820002000000000000000100004240000300000001000000005260000100015"
    ∷ "1b100000001000100020002000200020002000123a100010001000300010002000100010001000100010001000300030003000243b20002000100015"
    ∷ "181000000020002000200024342000200020003000300030003000352530001000200020003000300025232000100000000000042310001000152000"
    ∷ "00000000001000100020002000200020001000100010001000200020001000100010000000052d000020001000100010001000100025192000000010"
    ∷ "0010001000200010003000100020002000241e0000100030003000100010001000100010001000141b10001000100020002000100010001520000002"
    ∷ "3b0000000000000000100010001000100010001000100010001000100010000000000020002000200025372000100010001000100010001000100010"
    ∷ "001000000034232000100010001000100010001000142d1000100010001000100030003000300030001427100010001000353b200010002000000015"
    ∷ "282520200020002000300020002000200010002000200020002000100010001000000030003000300030003000000000003000000030003536300015"
    ∷ "2410001000100010003000000030003000343e20002000200000002000200000000000000000002000123d3000300030001000100010001000200020"
    ∷ "0020000000"
    ∷ []

abbrev text0033 : List String
text0033 =
    "records 331 of 331 refusal 0;t0 split 38 no;t3 split 55 no;t3 split 29 no;t2 split 55 no;t2 join 23 no;t3 split 42 no;t1"
    ∷ " split 58 no;t0 join 23 no;t1 join 57 no;t3 join 25 no;t2 insert 44 yes;t3 split 35 no;t2 split 42 no;t1 join 37 no;t1 j"
    ∷ "oin 48 no;t3 insert 62 yes;t3 split 35 yes;t3 split 60 no;t1 split 29 no;t0 join 57 no;t0 split 36 no;t1 join 56 no;t1 j"
    ∷ "oin 27 no;t2 insert 61 yes;t1 insert 58 yes;t2 split 59 no;t3 join 28 no;t2 split 52 yes;t0 join 38 no;t1 join 24 no;t0 "
    ∷ "split 35 no;t2 join 35 no;t2 join 25 no;t3 join 37 no;t1 join 32 yes;t1 split 27 yes;t0 join 45 no;t2 split 30 no;t1 joi"
    ∷ "n 32 yes;t1 split 45 yes;t3 split 35 no;t1 split 39 no;t2 join 55 no;t1 join 40 no;t3 join 59 no;t1 join 36 no;t3 join 5"
    ∷ "4 no;t3 split 62 no;0 route 62;1 route 58;2 main 44;2 neighbour 58 61;1 neighbour 62;set 44 58 61 62;stored 4 used 28;"
    ∷ []

computed0033 : quick_printed (file_of file0033) ≡ text_of text0033
unfolding bytes_of record_at between reaches adding back reached_first reached_next asked put take_out merge within lower upper depth_text row_line
    decimal stations_to stations_text route_line base_line set_line list_refusal check replaceable action_word first_line last_line taken stepped
    started record_step run_refusal count_of file_refusal reached onward followed blocked lacks cleared lost probe replaced beside step ite has insert
    remove union cut below from size least drop_least upper_half lower_half split_key ones_in count_trailing_zeros
computed0033 = refl

pub printed0033 : printed (file_of file0033) ≡ text_of text0033
printed0033 = sym (quick_printed_printed (file_of file0033)) ∙ computed0033

-- ---- 0034

abbrev file0034 : List String
file0034 =
    "0100b8042000000000032d000000000000050e00000000052800000000051400000000042a1524342a30003000331f30003100231620002000200025"
    ∷ "2a20002000222d200020002000251620002000252700000000052400000000050e00000000052900000000051c000000000528000000000411000000"
    ∷ "00030f000000000000100010003000300030003000151810001000151910001000130e10001000100012210316000000001000100010001228100010"
    ∷ "0030003000300020002000251c20002000241c200020002000252420001000100010001000100010001000150c100010001000200020002000200020"
    ∷ "002000300030003000300030002000200020002000200020002000200020002512000030001000100030003000142600000000000020002000200020"
    ∷ "0020002000200020002000100010001000151d3000200030003000200020002000300030000000000000003000000000000000000000000000000000"
    ∷ "00000000000000052a0000"
    ∷ []

abbrev text0034 : List String
text0034 =
    "records 23 of 184 refusal 11;t0 split 32 no;t0 remove 45 no;t0 join 14 no;t0 join 40 no;t0 join 20 no;t3 split 42 no;0 n"
    ∷ "ormal -;set -;stored 0 used 2;"
    ∷ []

computed0034 : quick_printed (file_of file0034) ≡ text_of text0034
unfolding bytes_of record_at between reaches adding back reached_first reached_next asked put take_out merge within lower upper depth_text row_line
    decimal stations_to stations_text route_line base_line set_line list_refusal check replaceable action_word first_line last_line taken stepped
    started record_step run_refusal count_of file_refusal reached onward followed blocked lacks cleared lost probe replaced beside step ite has insert
    remove union cut below from size least drop_least upper_half lower_half split_key ones_in count_trailing_zeros
computed0034 = refl

pub printed0034 : printed (file_of file0034) ≡ text_of text0034
printed0034 = sym (quick_printed_printed (file_of file0034)) ∙ computed0034

-- ---- 0035

abbrev file0035 : List String
file0035 =
    "01003d0230343130003000312f300000001331352f30003000343130003000222f200020002000242f20002000242f20002000243120001000100010"
    ∷ "001430100000000000100013311000100010001530100010000000000000000000032f00000000000002300000123010002000233020002000200032"
    ∷ "3010001000"
    ∷ []

abbrev text0035 : List String
text0035 =
    "records 61 of 61 refusal 0;t3 split 49 no;t3 lookup 47 no;t3 join 47 no;t3 split 49 no;t2 insert 47 yes;t2 split 47 no;t"
    ∷ "2 split 47 no;t1 remove 49 no;t1 split 48 no;t1 remove 49 no;t1 join 48 no;t0 insert 48 yes;t0 remove 47 yes;t2 split 49"
    ∷ " no;t2 remove 48 yes;0 normal -;set -;stored 0 used 7;"
    ∷ []

computed0035 : quick_printed (file_of file0035) ≡ text_of text0035
unfolding bytes_of record_at between reaches adding back reached_first reached_next asked put take_out merge within lower upper depth_text row_line
    decimal stations_to stations_text route_line base_line set_line list_refusal check replaceable action_word first_line last_line taken stepped
    started record_step run_refusal count_of file_refusal reached onward followed blocked lacks cleared lost probe replaced beside step ite has insert
    remove union cut below from size least drop_least upper_half lower_half split_key ones_in count_trailing_zeros
computed0035 = refl

pub printed0035 : printed (file_of file0035) ≡ text_of text0035
printed0035 = sym (quick_printed_printed (file_of file0035)) ∙ computed0035
